-- The hands at the queue of links.
-- A tie between the code and its definitions: the promise can be read without it.
use Rattle.std.specs.Prelude.{ℕ, ◌≡◌, ◌+◌, List, [], ◌∷◌, ◌++◌, Option}
use mathlib.Core.Option.{some}
use lib.ListN.{get_elem?}
use Rattle.atomic_table.specs.Seated.{TableId}
use Rattle.crossbeam_queue.specs.Passes.{Pass, view}
use Rattle.crossbeam_queue.specs.declared.array_queue.Doing.{Doing}
use Rattle.crossbeam_queue.specs.declared.array_queue.Slotted.{Slotted}
use Rattle.link_queue.specs.declared.hand.QueueHand.{QueueHand}
use Rattle.link_queue.specs.Weights.{WeighAlike, weigh}

-- the parts of the right to know what the queue holds: who has all of them is alone at it
abbrev pub all_parts : ℕ
all_parts = 64

module _ {L : Type 0} where
  abbrev pub hand : ℕ → List L → List L → QueueHand L
  hand parts put taken = record { parts = parts; put = put; taken = taken }

  abbrev pub with_put : QueueHand L → L → QueueHand L
  with_put v link = hand v.parts (v.put ++ link ∷ []) v.taken

  abbrev pub with_taken : QueueHand L → L → QueueHand L
  with_taken v link = hand v.parts v.put (v.taken ++ link ∷ [])

  -- with what another hand has put and taken before
  abbrev pub with_other : QueueHand L → QueueHand L → QueueHand L
  with_other v w = hand (v.parts + w.parts) (w.put ++ v.put) (w.taken ++ v.taken)

  -- a hand with no part has put and taken nothing
  abbrev pub IdleIsEmpty : List (QueueHand L) → Type 0
  IdleIsEmpty views = (port : ℕ) (v : QueueHand L) → get_elem? views port ≡ some v → v.parts ≡ 0 → (v.put ≡ []) × (v.taken ≡ [])

  -- what was put is what was taken and what the queue holds, however the links are weighed
  pub record IsBalanced (links : List L) (views : List (QueueHand L)) : Type 0 where
    pub parts : weigh (λ (v : QueueHand L). v.parts) views ≡ all_parts
    pub weights : (f : L → ℕ) → weigh (λ (v : QueueHand L). weigh f v.put) views ≡ weigh (λ (v : QueueHand L). weigh f v.taken) views + weigh f links
    pub idle : IdleIsEmpty views

  -- a hand that is alone at the queue knows what it holds
  abbrev pub KnowsHeld : QueueHand L → List L → Type 0
  KnowsHeld v links = v.parts ≡ all_parts → (f : L → ℕ) → weigh f v.put ≡ weigh f v.taken + weigh f links

  -- it has put what it has taken
  abbrev pub IsEven : QueueHand L → Type 0
  IsEven v = WeighAlike v.put v.taken

  -- the table of a queue, by which hands at it are told
  abbrev pub table_of : {Q A : Type 0} → Slotted (Option L) (Doing L (QueueHand L)) Q A → TableId
  table_of queue = queue.table.shared.table_id

  -- a hand at the queue of this table, which knows this
  pub record IsHand (table : TableId) (v : QueueHand L) (pass : Pass L (QueueHand L)) : Type 0 where
    pub of : pass.table_id ≡ table
    pub carries : pass.me.1 ≡ []
    pub knows : view pass ≡ v
