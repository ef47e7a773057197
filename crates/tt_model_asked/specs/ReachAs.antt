-- Reaches as they are kept, and the greatest that a statement needs.
use Rattle.std.specs.Prelude.{List, [], max, ◌∷◌, ℕ}
use Rattle.tt_plain.specs.asked.Reach.{Clustering, Names, Queries, Reach, Storage, TimeTravel, Transactions, WholeTables, reach_number}
use Rattle.tt_model_asked.specs.declared.reach.Reach.{Reach as KeptReach}
use Rattle.tt_model_asked.specs.declared.reach.Reach.TheVariants as kept

abbrev pub reach_in : KeptReach → Reach
reach_in kept.WholeTables = WholeTables
reach_in kept.Queries = Queries
reach_in kept.Transactions = Transactions
reach_in kept.TimeTravel = TimeTravel
reach_in kept.Names = Names
reach_in kept.Storage = Storage
reach_in kept.Clustering = Clustering

abbrev pub most_of : List Reach → ℕ
most_of [] = 0
most_of (reach ∷ reaches) = max (reach_number reach) (most_of reaches)
