-- A struct of one field, by the value of that field. Assumes `Logic`.
use Rattle.std.proofs.Common.{List, [], ◌∷◌, refl}
use seplogic.Ra.Ura.{Ura}
use mir.Val.{Val, vstruct, vcons, vnil}
use types.Logic.{Logic}
use types.Kit.{Goal, Step, step, Item, ‵, ◌$◌, move, fjoin, fpack, feq_i}
use denote.RattleType.{RattleType, Valss}
use denote.Steps.{nothing}
use denote.Struct.Struct.{Struct, within}

-- the value of a struct without fields, and of one with one field
abbrev pub empty : Val
empty = vstruct vnil

abbrev pub holding : Val → Val
holding u = vstruct (vcons u vnil)

abbrev pub only : RattleType → RattleType
only R = Struct (record { name = []; args = []; types = []; fields = R ∷ [] })

module _ {M : Type 1} {𝓤 : Ura M} {𝓛 : Logic 𝓤} {K : Type 0} {Γ : List (Item 𝓤)} {G : Goal 𝓤 𝓛.H} where
  -- who owns the field owns the struct
  pub joined : K → (R : RattleType) (x : R.Denot) (u : Val) → Step K 𝓛 (‵ ((only R).own_val (x, tt) (holding u ∷ [])) ∷ Γ) G (‵ (R.own_val x (u ∷ [])) ∷ Γ) G
  joined t R x u = step (λ s.
      nothing t $ move t (1 ∷ 0 ∷ []) $ fjoin t $ feq_i t (List Val) (holding u ∷ []) (holding u ∷ []) refl $ fjoin t $
      fpack t (Valss (R ∷ [])) (within (record { name = []; args = []; types = []; fields = R ∷ [] }) (x, tt) (holding u ∷ [])) (u ∷ [], tt) $ s)
