-- Three events one after the other, each with its chance.
use Rattle.std.proofs.Common.{◌≡◌, ◌≤◌, ◌+◌, ℕ, Bool, true, false, Option, None, inl, inr, refl, sym, ◌∙◌, length, arith}
use Rattle.cabinet.specs.State.{State}
use Rattle.cache_core.specs.declared.actor.Actor.TheVariants as actor
use Rattle.cache_core.specs.declared.actor.Step.{Step}
use Rattle.cache_core.specs.declared.outcome.TileOutcome.{TileOutcome}
use Rattle.cache_core.specs.Shown.{shown}
use Rattle.cache_core.specs.Steps.{Stepped, advanced, began, disk_faults, ends}
use Rattle.base.specs.Causes.{RoseBy}
use Rattle.job_words.specs.Visit.{Chances}
use Rattle.matrix_geometry.specs.declared.address.Address.{Address}
use Rattle.tile_requests.specs.Events.{GoesFurther, MovesRequest, RunsTo, ended_so}
use Rattle.tile_requests.specs.Requests.{Chance, calm, disk_faults_in, further, is_at_work}
use Rattle.tile_requests.proofs.Moving.{begun_moves, moves_further}
use Rattle.sessions.specs.Outside.{FaultCounts, counts}

-- WHAT THEY CAME TO

-- From s the tile was asked for, or a render of its metatile forced, and two further events followed if they had work, to t, at which the
-- request had this outcome, while the source and the disk went from one count of faults to another. Each event has its chance, and the
-- three name no more faults of the disk than its count rose by. What the events say of a modelled source is left out.
pub record CarriesOn (renders disk : FaultCounts) (force : Bool) (s : State) (a : Address) (o : TileOutcome) (t : State) : Type 0 where
  pub chances : Chances
  pub made : ends t o ≡ further chances.ending (further chances.rendering (began s a force chances.asking.ask chances.asking.moment chances.asking.unread chances.asking.bytes))
  pub disk_later : disk.before ≤ disk.after
  pub faults : RoseBy (disk_faults_in chances.asking + disk_faults_in chances.rendering + disk_faults_in chances.ending) disk.before disk.after
  pub moves : MovesRequest None renders.before renders.after s actor.Idle a (length s.history) (ended_so o) t

-- ONE EVENT

-- a chance with these parts, which are all that an event takes
abbrev at_chance : Bool → ℕ → Bool → Bool → Option (ℕ → ℕ) → Bool → Chance
at_chance ask moment unread work bytes unwritten = record { read = true; ask = ask; moment = moment; unread = unread; work = work; bytes = bytes; unwritten = unwritten; left = true }

stays : (c : Chance) (r : Stepped) → is_at_work r.actor ≡ false → further c r ≡ r
stays c r e = rw e refl

goes : (c : Chance) (r : Stepped) → is_at_work r.actor ≡ true → further c r ≡ advanced r.cabinet r.actor c.work c.moment c.unread c.bytes c.unwritten
goes c r e = rw e refl

-- a further event has a chance
record Goes (disk_before disk_after : ℕ) (from to : Stepped) : Type 0 where
  chance : Chance
  made : to ≡ further chance from
  faults : RoseBy (disk_faults_in chance) disk_before disk_after
  later : disk_before ≤ disk_after

goes_further : (told : Option ℕ) (before after disk_before disk_after : ℕ) (s t : State) (old step : Step) → GoesFurther told before after disk_before disk_after s old step t → Goes disk_before disk_after (shown old s) (shown step t)
goes_further told before after disk_before disk_after s t old step (inl h) =
    let same : shown step t ≡ shown old s = rw (h.1, h.2) refl in
    record { chance = calm; made = same ∙ sym (stays calm (shown old s) h.0); faults = let l = h.4 in omega arith; later = h.4 }
goes_further told before after disk_before disk_after s t old step (inr h) =
    let e = h.1 in
    let c = at_chance true e.moment e.unread e.left e.bytes e.unwritten in
    record { chance = c; made = e.advanced ∙ sym (goes c (shown old s) h.0); faults = e.disk_cause; later = e.disk_later }

-- THREE OF THEM

three_rose : (a b c first second third last : ℕ) → RoseBy a first second → RoseBy b second third → RoseBy c third last → RoseBy (a + b + c) first last
three_rose a b c first second third last f g h = omega (arith, f, g, h)

pub carries : (before after disk_before disk_after : ℕ) (s : State) (a : Address) (force : Bool) (o : TileOutcome) (t : State) → RunsTo before after disk_before disk_after s a force o t
    → CarriesOn (counts before after) (counts disk_before disk_after) force s a o t
carries before after disk_before disk_after s a force o t r =
    let h = r.begins in
    let first = begun_moves None before disk_before r.disk_asked s a force r.asked r.at_ask h in
    let second = moves_further None before before r.mid r.disk_asked r.disk_mid s r.at_ask r.at_render actor.Idle a (length s.history) r.asked r.rendered first first.within r.renders in
    let render = goes_further None before r.mid r.disk_asked r.disk_mid r.at_ask r.at_render r.asked r.rendered r.renders in
    let end = goes_further None r.mid after r.disk_mid disk_after r.at_render t r.rendered (ended_so o) r.ends in
    let i = h.later in
    let j = render.later in
    let l = end.later in
    record {
      chances = record { asking = at_chance h.left h.moment h.unread true h.bytes false; rendering = render.chance; ending = end.chance };
      made = rw (sym h.began) (rw (sym render.made) end.made);
      disk_later = omega arith;
      faults = three_rose (disk_faults h.unread false) (disk_faults_in render.chance) (disk_faults_in end.chance) disk_before r.disk_asked r.disk_mid disk_after h.cause render.faults end.faults;
      moves = moves_further None before r.mid after r.disk_mid disk_after s r.at_render t actor.Idle a (length s.history) r.rendered (ended_so o) second second.within r.ends;
    }
