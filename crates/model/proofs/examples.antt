-- What the definitions come to, by computation: a history with promised places, what is kept of newest positions, rounds; which writes land and which commits are
-- owed; questions clause by clause and two at a time; some rows of longer tables. They rest on no law, so a definition that goes wrong is refused here
-- first. All rows of the longer tables (trials, a history of every call of document 01, torn groups, lists of rights, records in order) are computed in
-- the crate `model_tables`.
pub mod Computing
pub mod ReservationsHold
pub mod PositionsHold
pub mod RoundsGo
pub mod LandingsHold
pub mod OwedHolds
pub mod DisorderHolds
pub mod PrecedenceHolds
pub mod SomeRowsHold
