-- What the histories of crates/model/specs/examples/Tears come to, by computation.
use mathlib.Core.Path.{◌≡◌, refl}
use mathlib.Core.Bool.{true}
use Rattle.model.specs.examples.Tears.{opens, alone, both, reads_to, reads_thus, two_commits, commits_two, tears_to, metadata_without_block, blocks_without_metadata, entries_landed, wrapping, wraps_so, reusing, reuses_so, cutting, cuts_so, tears_so}
use Rattle.model.proofs.examples.Computing.{all-definitions}

pub tears-so : tears_so ≡ true
unfolding all-definitions opens alone both reads_to reads_thus two_commits commits_two tears_to metadata_without_block blocks_without_metadata entries_landed wrapping wraps_so reusing reuses_so cutting cuts_so tears_so
tears-so = refl
