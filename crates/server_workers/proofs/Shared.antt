-- Threads may share a world. What it holds is given part by part, since the tables of requests hold a tree.
use mathlib.Core.List.{List, [], ◌∷◌}
use Prim.Native.Nat.{ℕ}
use denote.RattleType.{RattleType}
use base.Fml.{Lft}
use mir.Syntax.{Lifetime}
use denote.Param.Send.{IsSync, IsSend, mut_send, shr_send, shr_sync}
use denote.Ref.{MutRef, ShrRef}
use denote.Param.SendFields.{declared_send, declared_sync, as_row_send, as_row_sync}
use denote.Struct.Field.{row_field}
use denote.Struct.Tuple.{TupleAt, type_at}
use Rattle.cache_hall.proofs.hall.Hall.TheSendSync as hall
use Rattle.exact_ratio.proofs.words.Words.TheSendSync as words
use Rattle.exact_ratio.specs.contracts.words.Words as text
use Rattle.hall_sessions.specs.contracts.world.World as world
use Rattle.job_board.proofs.board.Board.TheSendSync as board
use Rattle.layer_recipes.proofs.book.RecipeBook.TheSendSync as book
use Rattle.base.proofs.traffic.Traffic.TheSendSync as traffic
use Rattle.tile_requests.specs.contracts.tables.Tables as tables

pub world_sync : (K : RattleType) (g : _) → IsSync tables.the_row → IsSend K → IsSync (world.the_row K g)
world_sync K g r k = declared_sync (world.the_type K g) (hall.the_sync K g k, (r, (as_row_sync text.the_field words.the_sync, (board.the_sync, (traffic.the_sync, (book.the_sync, tt))))))

-- a closure may go to another thread that borrows four things which threads may share, and one alone which may go to another thread
pub borrower_send : (name : List ℕ) (a b c d e : Lifetime) (κa κb κc κd κe : Lft) (A B C D E : RattleType) → IsSync A → IsSync B → IsSync C → IsSync D → IsSend E
    → IsSend (TupleAt name (ShrRef a κa A ∷ ShrRef b κb B ∷ ShrRef c κc C ∷ ShrRef d κd D ∷ MutRef e κe E ∷ []))
borrower_send name a b c d e κa κb κc κd κe A B C D E sa sb sc sd se =
    declared_send (type_at name (ShrRef a κa A ∷ ShrRef b κb B ∷ ShrRef c κc C ∷ ShrRef d κd D ∷ MutRef e κe E ∷ [])) (
      as_row_send (row_field (ShrRef a κa A)) (shr_send a κa A sa),
      (as_row_send (row_field (ShrRef b κb B)) (shr_send b κb B sb), (as_row_send (row_field (ShrRef c κc C)) (shr_send c κc C sc), (as_row_send (row_field (ShrRef d κd D)) (shr_send d κd D sd), (as_row_send (row_field (MutRef e κe E)) (mut_send e κe E se), tt)))),
    )

-- threads may share a closure that borrows four things which they may share
pub sharer_sync : (name : List ℕ) (a b c d : Lifetime) (κa κb κc κd : Lft) (A B C D : RattleType) → IsSync A → IsSync B → IsSync C → IsSync D
    → IsSync (TupleAt name (ShrRef a κa A ∷ ShrRef b κb B ∷ ShrRef c κc C ∷ ShrRef d κd D ∷ []))
sharer_sync name a b c d κa κb κc κd A B C D sa sb sc sd =
    declared_sync (type_at name (ShrRef a κa A ∷ ShrRef b κb B ∷ ShrRef c κc C ∷ ShrRef d κd D ∷ [])) (
      as_row_sync (row_field (ShrRef a κa A)) (shr_sync a κa A sa),
      (as_row_sync (row_field (ShrRef b κb B)) (shr_sync b κb B sb), (as_row_sync (row_field (ShrRef c κc C)) (shr_sync c κc C sc), (as_row_sync (row_field (ShrRef d κd D)) (shr_sync d κd D sd), tt))),
    )
