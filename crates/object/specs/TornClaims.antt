-- Demand 2, what every call answers, and isolation, over histories whose crashes leave any memory alike to one that whole blocks would have left (Alike.antt).
use Rattle.std.specs.Prelude.{ℕ, ◌≡◌, Bool, true, List, [], ◌∷◌}
use Rattle.model.specs.DemandTwo.{Live, YieldsAt}
use Rattle.model.specs.History.{Call, crash, World, Formatting, after_format, AllAllowed, calls}
use Rattle.abstract_store.specs.Store.{Store, new_store, follow, found_in_memory, AnswersAt}
use Rattle.theorems.specs.Isolation.{Each, StoreAlike, CallAlike, DeniedThroughout, ToldSameThroughout}
use Rattle.object.specs.Alike.{Tearing, plain, torn, tears, torn_after, AllTearingsAllowed}

-- Demand 2: what the calls write reads back as the book has it, and every done call yields what the book says

abbrev pub TearingYields : World → Tearing → Type 0
TearingYields w (plain e) = YieldsAt w e
TearingYields w (torn passed chosen left) = Unit {0}

abbrev pub LiveTorn : World → List Tearing → Type 0
LiveTorn w [] = w.ready ≡ true → Live w
LiveTorn w (t ∷ ts) = (w.ready ≡ true → Live w) × TearingYields w t × LiveTorn (tears w t) ts

-- [S-57]
abbrev pub Demand2Torn : Type 0
Demand2Torn =
    (groups homes : ℕ) (f : Formatting groups homes) (ts : List Tearing) → AllTearingsAllowed groups (after_format f) ts →
    LiveTorn (after_format f) ts

-- Answers: the abstract store is fed what whole blocks would have left; every call answers what it says, and an opening finds what it says comes back

unfoldable pub follow_torn : Store → World → Tearing → Store
follow_torn s w (plain e) = follow s w e
follow_torn s w (torn passed chosen left) = follow s w (crash passed chosen)

unfoldable pub followed_torn : Store → World → List Tearing → Store
followed_torn s w [] = s
followed_torn s w (t ∷ ts) = followed_torn (follow_torn s w t) (tears w t) ts

abbrev pub TearingAnswers : World → Store → Tearing → Type 0
TearingAnswers w s (plain e) = AnswersAt w s e
TearingAnswers w s (torn passed chosen left) = Unit {0}

abbrev pub FoundBack : World → Store → Type 0
FoundBack w s = found_in_memory s.groups s.homes w.memory ≡ s.back

abbrev pub AnswersThroughTorn : World → Store → List Tearing → Type 0
AnswersThroughTorn w s [] = FoundBack w s
AnswersThroughTorn w s (t ∷ ts) = FoundBack w s × TearingAnswers w s t × AnswersThroughTorn (tears w t) (follow_torn s w t) ts

-- [S-57]
abbrev pub AnswersTorn : Type 0
AnswersTorn =
    (groups homes : ℕ) (f : Formatting groups homes) (ts : List Tearing) → AllTearingsAllowed groups (after_format f) ts →
    AnswersThroughTorn (after_format f) (new_store groups homes) ts

-- Isolation: what comes before the two histories is any history each, torn crashes included, that leaves stores alike [S-57]
abbrev pub IsolationTorn : Type 0
IsolationTorn =
    (groups homes : ℕ) (f g : Formatting groups homes) (before other : List Tearing) (cs ds : List Call) (writer : ℕ) (hidden : ℕ → Bool) →
    AllTearingsAllowed groups (after_format f) before → AllTearingsAllowed groups (after_format g) other →
    let w : World = torn_after (after_format f) before in
    let v : World = torn_after (after_format g) other in
    AllAllowed w (calls cs) → AllAllowed v (calls ds) → w.ready ≡ true → v.ready ≡ true →
    let s : Store = followed_torn (new_store groups homes) (after_format f) before in
    let t : Store = followed_torn (new_store groups homes) (after_format g) other in
    StoreAlike hidden s t → Each (CallAlike hidden) cs ds → DeniedThroughout writer hidden s w (calls cs) → ToldSameThroughout writer w v cs ds
