-- How the words of a link end.
use Rattle.std.proofs.Common.{◌≡◌, ◌≤◌, ℕ, Result, Ok, Err, inr, subst}
use Rattle.cabinet.specs.State.{State}
use Rattle.catalog.specs.declared.catalogue.Catalogue.{Catalogue}
use Rattle.base.specs.Readings.{Readings}
use Rattle.command_setup.specs.declared.configuration.Unconfigured.{Unconfigured}
use Rattle.command_setup.specs.declared.configuration.Unconfigured.TheVariants as unconfigured
use Rattle.command_status.specs.declared.status.Status.TheVariants as status
use Rattle.cut_follower.specs.declared.ends.LinkEnd.{LinkEnd}
use Rattle.cut_follower.specs.declared.ends.LinkEnd.TheVariants as link_end
use Rattle.cut_follower.specs.Links.{LinkAt}
use Rattle.command_setup.specs.Refusals.{status_of_refusal}
use Rattle.gate_journal.specs.declared.fault.OpenFault.{OpenFault}
use Rattle.gate_journal.specs.declared.fault.OpenFault.TheVariants as fault
use Rattle.opened_cache.specs.Change.{DiskChange}
use Rattle.opened_cache.specs.Opened.{HasOpened}
use Rattle.sessions.specs.Outside.{counts}
use Rattle.link_words.proofs.Following.{wider}
use Rattle.link_words.specs.declared.ends.LinkingEnd.TheVariants as linking
use Rattle.link_words.specs.Endings.{ending_of}
use Rattle.link_words.specs.Ends.{Follows, FollowsWith}

module _ (c : Catalogue) (clock : Readings) (d m : DiskChange) (a b : LinkAt) (LinkStays MarksStay : Type 0) where
  -- faults counted from before the opening of the cache
  with_wider : (s u : State) (mid : ℕ) → d.faults.before ≤ mid → (end : Result LinkEnd OpenFault) → FollowsWith c (counts mid d.faults.after) m a b LinkStays s u end → FollowsWith c d.faults m a b LinkStays s u end
  with_wider s u mid later (Ok e) f = wider c d.faults.before mid d.faults.after m a b s u e later f
  with_wider s u mid later (Err cause) f = f

  opened_so : (s u : State) → HasOpened c clock d s u → (end : Result LinkEnd OpenFault) → FollowsWith c d.faults m a b LinkStays s u end → Follows c clock d m a b LinkStays MarksStay end
  opened_so s u h (Ok e) f = record { first = s; last = u; opened = h; follows = f }
  opened_so s u h (Err cause) f = inr (record { first = s; last = u; opened = h; follows = f })

  -- the cache was opened, and the changes of a link were made on its cabinet
  pub followed_tells : (s u : State) (mid : ℕ) → HasOpened c clock d s u → s.catalogue ≡ c → d.faults.before ≤ mid → (end : Result LinkEnd OpenFault) → FollowsWith s.catalogue (counts mid d.faults.after) m a b LinkStays s u end → Follows c clock d m a b LinkStays MarksStay end
  followed_tells s u mid h same later end f = opened_so s u h end (with_wider s u mid later end (subst (λ (x : Catalogue). FollowsWith x (counts mid d.faults.after) m a b LinkStays s u end) same f))

-- no end of the words is that other words are none
pub never_usage : (end : Result LinkEnd OpenFault) → ending_of end ≡ linking.Status status.Usage → ⊥
never_usage (Ok link_end.Finished) is = absurd (cc)
never_usage (Ok link_end.Truncated) is = absurd (cc)
never_usage (Ok link_end.BadPacket) is = absurd (cc)
never_usage (Ok link_end.ReadFault) is = absurd (cc)
never_usage (Ok link_end.WriteFault) is = absurd (cc)
never_usage (Ok (link_end.Stopped reply)) is = absurd (cc)
never_usage (Ok link_end.TooMany) is = absurd (cc)
never_usage (Ok link_end.OutOfMemory) is = absurd (cc)
never_usage (Err fault.NotACache) is = absurd (cc)
never_usage (Err (fault.CatalogueDiffers found asked)) is = absurd (cc)
never_usage (Err (fault.BadRecord slot)) is = absurd (cc)
never_usage (Err fault.Spent) is = absurd (cc)
never_usage (Err fault.DiskFault) is = absurd (cc)
never_usage (Err fault.OutOfMemory) is = absurd (cc)

pub never_refused : (e : Unconfigured) → linking.Status (status_of_refusal e) ≡ linking.Status status.Usage → ⊥
never_refused unconfigured.ReadFault is = absurd (cc)
never_refused unconfigured.TooLong is = absurd (cc)
never_refused (unconfigured.Fault cause) is = absurd (cc)
never_refused unconfigured.OutOfMemory is = absurd (cc)
