-- The two areas: the log's header and groups, the homes.
-- "The data area is D home blocks of 64 bytes, D from 1 to 4,096. Homes count from 0. The log area is a 64-byte head and then G groups of 512
-- bytes, G from 4 to 1,024. G and D follow from the lent lengths 64 + 512 × G and 64 × D." "D goes up to 65,535, the most the head's field can
-- say."
use Rattle.std.specs.Prelude.{ℕ, zero, suc, ◌+◌, ◌-◌, ◌*◌, ◌/◌, ◌%◌, ◌^◌, Bool, cond, ◌&&◌, List, [], ◌∷◌, ◌++◌, eqb, leb, ltb}
use Rattle.model.specs.Bytes.{part, puts, zeros, bytes, number, put_number, same}
use Rattle.model.specs.Tag.{with_displaced, field, displaced, read_tag}
use Rattle.model.specs.declared.Tag.{Tag}
use Rattle.model.specs.declared.Tag.TheVariants.{Nothing}

-- lengths and limits

unfoldable pub group_count : ℕ → ℕ
group_count log_length = (log_length - 64) / 512

unfoldable pub home_count : ℕ → ℕ
home_count data_length = data_length / 64

abbrev pub min_groups : ℕ
min_groups = 4

abbrev pub max_groups : ℕ
max_groups = 1024

abbrev pub max_homes : ℕ
max_homes = 65535

-- the highest start ("start ≤ 2^47")
abbrev pub max_start : ℕ
max_start = 2 ^ 47

-- [S-2]
unfoldable pub log_length_right : ℕ → Bool
log_length_right n = eqb n (64 + 512 * group_count n) && leb min_groups (group_count n) && leb (group_count n) max_groups

-- [S-1]
unfoldable pub data_length_right : ℕ → Bool
data_length_right n = eqb n (64 * home_count n) && leb 1 (home_count n) && leb (home_count n) max_homes

-- the header ("head")
-- "Head: mark 50 48 hex, six-byte start (the lowest live group number), two-byte G, two-byte D, 52 zeros." "The head mark is 50 54 hex; older heads
-- answer 3."

abbrev pub header_mark : List ℕ
header_mark = 0x50 ∷ 0x54 ∷ []

unfoldable pub header : ℕ → ℕ → ℕ → List ℕ
header start groups homes = header_mark ++ (bytes 6 start ++ (bytes 2 groups ++ (bytes 2 homes ++ zeros 52)))

unfoldable pub header_start : List ℕ → ℕ
header_start log = number 6 log 2

-- "is the head's mark, G, D and zeros right"
unfoldable pub header_right : List ℕ → ℕ → ℕ → Bool
header_right log groups homes =
    same (part log 0 2) header_mark && eqb (number 2 log 8) groups && eqb (number 2 log 10) homes && same (part log 12 52) (zeros 52)

-- groups
-- "Group number n lies at ring place n mod G. Its first block is metadata: mark 50 47 hex, six-byte number, seven tags of eight bytes; seven
-- data blocks follow." "Each group is read as the 512 bytes that begin inside the log copy."

abbrev pub group_mark : List ℕ
group_mark = 0x50 ∷ 0x47 ∷ []

-- where ring slot `slot` ("ring place") begins in the log area
unfoldable pub group_offset : ℕ → ℕ
group_offset slot = 64 + 512 * slot

unfoldable pub group_at : List ℕ → ℕ → List ℕ
group_at log slot = part log (group_offset slot) 512

-- a group's number, the word of its tag k, its data block k (k from 0 to 6)
unfoldable pub group_number : List ℕ → ℕ
group_number group = number 6 group 2

unfoldable pub tag_offset : ℕ → ℕ
tag_offset k = 8 + 8 * k

unfoldable pub group_tag : List ℕ → ℕ → ℕ
group_tag group k = number 8 group (tag_offset k)

unfoldable pub block_offset : ℕ → ℕ
block_offset k = 64 + 64 * k

unfoldable pub group_block : List ℕ → ℕ → List ℕ
group_block group k = part group (block_offset k) 64

-- "A group is valid if the mark fits, its number belongs to that ring place, and start ≤ number < start + G. Otherwise it is a hole."
-- Whether the 512 bytes at ring slot n mod G are a valid group with number n; of the numbers of that slot only one is in the range. [S-10]
unfoldable pub group_valid : List ℕ → ℕ → ℕ → ℕ → Bool
group_valid group groups start n = same (part group 0 2) group_mark && eqb (group_number group) n && leb start n && ltb n (start + groups)

-- turns
-- "The top bit of each data block's last byte becomes a turn bit, equal to (group number ÷ G, rounded down) mod 2"

-- [S-14]
unfoldable pub turn_of : ℕ → ℕ → ℕ
turn_of groups n = n / groups % 2

-- the top bit of a block's last byte, and the block with another one there
unfoldable pub top_bit : List ℕ → ℕ
top_bit block = field (number 1 block 63) 7 1

unfoldable pub with_top_bit : List ℕ → ℕ → List ℕ
with_top_bit block bit = puts block 63 ((number 1 block 63 - 2 ^ 7 * top_bit block + 2 ^ 7 * bit) ∷ [])

-- seven data blocks of zeros but for a turn bit
unfoldable pub turn_blocks : ℕ → ℕ → List ℕ
turn_blocks zero turn = []
turn_blocks (suc k) turn = zeros 63 ++ ((2 ^ 7 * turn) ∷ turn_blocks k turn)

-- "A blank group has its mark and number and else zeros." "A blank group's data blocks hold it too."
unfoldable pub blank_group : ℕ → ℕ → List ℕ
blank_group groups n = group_mark ++ (bytes 6 n ++ (zeros 56 ++ turn_blocks 7 (turn_of groups n)))

-- "opening writes every group .. as zeros (metadata too) but for turn bits opposite to what that place gets next"; "Format writes its groups so for
-- start 0"

-- the number of the group that a ring slot gets next in a log that starts at group `start`: the lowest from there on that lies in it
unfoldable pub next_in : ℕ → ℕ → ℕ → ℕ
next_in groups start slot = start + (slot + groups - start % groups) % groups

-- what lies in a ring slot that no group has been written to since
unfoldable pub unused_group : ℕ → ℕ → ℕ → List ℕ
unused_group groups start slot = zeros 64 ++ turn_blocks 7 (1 - turn_of groups (next_in groups start slot))

-- the first n slots so
unfoldable pub unused_slots : ℕ → ℕ → ℕ → List ℕ
unused_slots groups start zero = []
unused_slots groups start (suc n) = unused_slots groups start n ++ unused_group groups start n

-- an empty log: format's, and what an opening leaves
unfoldable pub empty_log : ℕ → ℕ → ℕ → List ℕ
empty_log start groups homes = header start groups homes ++ unused_slots groups start groups

-- the log area with a blank group n in its slot, and with an entry's tag and block at index k of a slot
unfoldable pub put_blank : List ℕ → ℕ → ℕ → ℕ → List ℕ
put_blank log groups slot n = puts log (group_offset slot) (blank_group groups n)

-- (the turn bit goes into the block, "the bit it displaces goes into tag bit 57")
unfoldable pub put_entry : List ℕ → ℕ → ℕ → ℕ → ℕ → List ℕ → List ℕ
put_entry log slot turn k word block =
    puts (put_number 8 log (group_offset slot + tag_offset k) (with_displaced word (top_bit block))) (group_offset slot + block_offset k)
    (with_top_bit block turn)

-- positions: "Position of place k (0 to 6) in group n: 7 × n + k."

-- the ring slot and the index in the group of a position [S-10, S-20]
unfoldable pub slot_of : ℕ → ℕ → ℕ
slot_of groups position = position / 7 % groups

-- [S-11]
unfoldable pub index_of : ℕ → ℕ
index_of position = position % 7

-- "An entry is there only if its block's turn bit fits": the word of tag k, or that of no entry
unfoldable pub word_there : List ℕ → ℕ → ℕ → ℕ
word_there group turn k = cond (eqb (top_bit (group_block group k)) turn) (group_tag group k) 0

-- what a group says at a position [S-15]
unfoldable pub entry_within : List ℕ → ℕ → ℕ → ℕ → ℕ → Tag
entry_within group groups homes start position =
    let n : ℕ = position / 7 in
    cond (group_valid group groups start n) (read_tag (word_there group (turn_of groups n) (index_of position)) position (7 * start) homes) Nothing

-- the block that an entry gives: its data block, with the displaced bit back in its place [S-15]
unfoldable pub block_of : List ℕ → ℕ → List ℕ
block_of group k = with_top_bit (group_block group k) (displaced (group_tag group k))

-- the tag and the block at a position of the log area
unfoldable pub entry_at : List ℕ → ℕ → ℕ → ℕ → ℕ → Tag
entry_at log groups homes start position = entry_within (group_at log (slot_of groups position)) groups homes start position

unfoldable pub block_at : List ℕ → ℕ → ℕ → List ℕ
block_at log groups position = block_of (group_at log (slot_of groups position)) (index_of position)

-- homes

unfoldable pub home_at : List ℕ → ℕ → List ℕ
home_at area home = part area (64 * home) 64

unfoldable pub put_home : List ℕ → ℕ → List ℕ → List ℕ
put_home area home block = puts area (64 * home) block
