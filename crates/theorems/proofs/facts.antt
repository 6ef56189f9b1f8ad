-- Facts stated in passing, and a history that meets the premises.
-- Laws of written_once (specs/Facts): fences, records put together, the writes of groups and of homes.
pub mod OnceLaws
-- The facts of specs/Facts, for every history: between two fences no block is written twice, and rows are submitted with their group writes.
pub mod FactLaws
-- The calls that are not lent the newest positions neither look at them nor change them; in a history they end as their contracts say.
pub mod AsideHolds
-- The history of specs/Witnesses meets the premises of demands 2 and 3, which therefore say something of it.
pub mod WitnessHolds
-- The first opening after a done format is done.
pub mod FirstOpens
