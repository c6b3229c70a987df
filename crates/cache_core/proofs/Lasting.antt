-- What a crash leaves between two states of a keeper: where nothing happened, after one command, and from one state over a second to a
-- third.
use Rattle.std.proofs.Common.{◌≡◌, ℕ, List, length, sym, subst}
use Rattle.cabinet.specs.Commands.{Abandons, Asks, Finishes, Forces}
use Rattle.cabinet.specs.declared.replies.Asked.{Asked}
use Rattle.cabinet.specs.declared.replies.Finished.{Finished}
use Rattle.cabinet.specs.declared.replies.Forced.{Forced}
use Rattle.cabinet.specs.State.{IsKnown, IsKnownAs, State, now}
use Rattle.cabinet.proofs.Rows.{abandons_known, asks_known, finishes_known, forces_known}
use Rattle.catalog.specs.LookUp.{IsTile}
use Rattle.matrix_geometry.specs.declared.address.Address.{Address}
use Rattle.metatile_locks.specs.Tickets.{Ticketed}
use Rattle.metatile_plan.specs.declared.metatile.MetaKey.{MetaKey}
use Rattle.raster_field.specs.Blocks.{IsMeta, blob_size}
use Rattle.truncation_list.specs.Books.{AnswersForBook}
use Rattle.truncation_list.proofs.Answering.{answers_itself, answers_through}
use Rattle.cache_core.specs.Lasting.{Lasting}

-- nothing happened, or a command left the state as it was
pub same_lasts : (O : Type 0) (s t : State) → O → t ≡ s → Lasting O s t
same_lasts O s t o same = let P : State → Type 0 = λ u. AnswersForBook (now u).book (now s).book in record { outlasts = o; answers = subst P (sym same) (answers_itself (now s).book) }

-- a command led from a known state to one that is known as it
pub known_lasts : (O : Type 0) (s t : State) → O → IsKnownAs s t → Lasting O s t
known_lasts O s t o known = record { outlasts = o; answers = known.answers.book }

-- ONE COMMAND

module _ (O : Type 0) (s t : State) (o : O) (known : IsKnown s) where
  pub ask_lasts : (before after : ℕ) (a : Address) (r : Asked) → IsTile s.catalogue a → Asks before after s a r t → Lasting O s t
  ask_lasts before after a r tile row = known_lasts O s t o (asks_known before after s t a r known tile row)

  pub force_lasts : (m : MetaKey) (r : Forced) → IsMeta s.catalogue m → Forces s m r t → Lasting O s t
  force_lasts m r meta row = known_lasts O s t o (forces_known s t m r known meta row)

  pub finish_lasts : (k : Ticketed) (blob : List ℕ) (r : Finished) → length blob ≡ blob_size s.catalogue k.meta → Finishes s k blob r t → Lasting O s t
  finish_lasts k blob r long row = known_lasts O s t o (finishes_known s t k blob r known long row)

  pub abandon_lasts : (k : Ticketed) → Abandons s k t → Lasting O s t
  abandon_lasts k row = known_lasts O s t o (abandons_known s t k known row)

-- FROM ONE STATE OVER A SECOND TO A THIRD, by what the keeper says of its states

pub lasts_itself : {K : Type 0} (state : K → State) (outlasts : K → K → Type 0) → ((k : K) → outlasts k k) → (k : K) → Lasting (outlasts k k) (state k) (state k)
lasts_itself state outlasts itself k = record { outlasts = itself k; answers = answers_itself (now (state k)).book }

pub lasts_on : {K : Type 0} (state : K → State) (outlasts : K → K → Type 0)
    → ((first then last : K) → AnswersForBook (now (state then)).book (now (state first)).book → outlasts first then → outlasts then last → outlasts first last)
    → (first then last : K) → Lasting (outlasts first then) (state first) (state then) → Lasting (outlasts then last) (state then) (state last)
    → Lasting (outlasts first last) (state first) (state last)
lasts_on state outlasts on first then last h k =
    record { outlasts = on first then last h.answers h.outlasts k.outlasts; answers = answers_through (now (state last)).book (now (state then)).book (now (state first)).book k.answers h.answers }
