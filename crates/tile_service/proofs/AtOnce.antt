-- A request that is answered without a render: what holds of the cabinet that it leaves and of its outcome. Here alone is a case for
-- each that changes the cabinet.
use Rattle.std.proofs.Common.{◌≡◌, ℕ, false, Some, None, refl, sym, ap, subst, ◌∙◌}
use Rattle.cabinet.specs.Counted.{scope_exceeded}
use Rattle.cabinet.specs.State.{State}
use Rattle.http_wire.specs.declared.message.Message.{Message}
use Rattle.tile_requests.specs.declared.outcome.Outcome.{Outcome}
use Rattle.tile_requests.specs.declared.request.Mode.{Mode}
use Rattle.tile_requests.specs.declared.request.Request.{Request}
use Rattle.tile_requests.specs.declared.request.Request.TheVariants as request
use Rattle.tile_requests.specs.Requests.{Chance, at_once, told_usage, tile_of}
use Rattle.tile_service.specs.Run.{RunState, asked, is_failed, told_in}
use Rattle.tile_service.specs.Session.{IsAtRest}
use Rattle.tile_service.proofs.AtRest.{RestsAfter, cut_rests, expired_rests}
use Rattle.tile_service.proofs.LaterCabinets.{IsLater, cut_later, expired_later, same}
use Rattle.tile_service.proofs.Telling.{Stays, cut_stays, expired_stays, same_stays, usage_stays}
use Rattle.tile_service.proofs.WithoutBlobs.{cut_like, expired_like, plain}

-- WHAT HOLDS

-- what is kept stays what it is, no render is left running, no number is taken back, and the texts of blobs have no part in it
pub record Holds (s : State) (c : Chance) (r : Request) : Type 0 where
  pub stays : Stays s (at_once s c r)
  pub rests : IsAtRest s → RestsAfter (at_once s c r)
  pub later : IsLater s (at_once s c r).0
  pub like : plain (at_once s c r).0 ≡ plain (at_once (plain s) c r).0

module _ (s : State) (c : Chance) where
  same_holds : (r : Request) (o : Outcome) → at_once s c r ≡ (s, o) → (at_once (plain s) c r).0 ≡ plain s → is_failed o ≡ false → Holds s c r
  same_holds r o made like told =
      record {
        stays = subst (Stays s) (sym made) (same_stays s o told);
        rests = λ rest. subst RestsAfter (sym made) rest;
        later = subst (λ (done : State × Outcome). IsLater s done.0) (sym made) (same s);
        like = ap (λ (done : State × Outcome). plain done.0) made ∙ sym (ap plain like);
      }

  pub holds : (r : Request) → Holds s c r
  holds request.Usage = same_holds request.Usage (told_usage s c.work) refl refl (usage_stays s c.work).3
  holds (request.Truncation cover) = record { stays = cut_stays s cover c.ask c.unwritten; rests = cut_rests s cover c.ask c.unwritten; later = cut_later s cover c.ask c.unwritten; like = cut_like s cover c.ask c.unwritten }
  holds request.Expiry = record { stays = expired_stays s c.work c.unwritten; rests = expired_rests s c.work c.unwritten; later = expired_later s c.work c.unwritten; like = expired_like s c.work (scope_exceeded s) c.unwritten }
  holds other = same_holds other _ refl refl refl

-- THE LINE THAT ASKS FOR IT

pub asked_at_once : (w : RunState) (n : ℕ) (c : Chance) (mode : Mode) (i : ℕ) (m : Message) (r : Request) → tile_of r ≡ None → asked w n c mode i m r ≡ told_in w n c i m (Some r) (at_once w.cabinet c r)
asked_at_once w n c mode i m (request.Tile a) e = absurd (cc)
asked_at_once w n c mode i m other e = refl
