-- A check of files that a start would take is done, where nothing fails.
use Rattle.std.proofs.Common.{ℕ, ◌≡◌, ◌+◌, ◌<◌, ◌≤◌, ◌^◌, ◌++◌, ◌⊎◌, Bool, true, false, List, length, Option, Some, None, Ok, Err, refl, sym, ap, subst, ◌∙◌, inl, inr, arith, append-nil, length-append}
use Rattle.std.specs.Io.KnownBytes.{Consumes, IsAtEnd}
use Rattle.cabinet_records.specs.Replay.{Replayed, opening_number}
use Rattle.catalog.specs.declared.catalogue.Catalogue.{Catalogue}
use Rattle.command_setup.specs.Refusals.{status_of_refusal}
use Rattle.command_setup.specs.Setup.{IsRead, IsRefused as AreRefused}
use Rattle.command_setup.specs.declared.configuration.TheConstants.{CATALOGUE_LIMIT}
use Rattle.command_setup.specs.declared.configuration.Unconfigured.{Unconfigured}
use Rattle.command_setup.specs.declared.configuration.Unconfigured.TheVariants as unconfigured
use Rattle.command_status.specs.declared.status.Status.{Status}
use Rattle.command_status.specs.declared.status.Status.TheVariants as status
use Rattle.config_text.specs.Text.{catalogue_of}
use Rattle.durable_cabinet.proofs.Once.{opens_once}
use Rattle.gate_journal.specs.declared.fault.OpenFault.{OpenFault}
use Rattle.gate_journal.specs.declared.fault.OpenFault.TheVariants as fault
use Rattle.opened_cache.proofs.Refusing.{bad_or_opened, not_none, not_other}
use Rattle.opened_cache.specs.Opened.{IsRefused}
use Rattle.look_words.specs.Checks.{CheckChange, CheckTells, Checks, IsComplete, IsReady, NothingFails}

-- what was read to the end of a modelled file is its text
whole_text : (from to : Option (List ℕ)) (text all : List ℕ) → from ≡ Some all → Consumes from to text → IsAtEnd to → text ≡ all
whole_text None to text all is read ended = cc
whole_text (Some x) None text all is read ended = absurd read
whole_text (Some x) (Some rest) text all is read ended = let e : x ≡ text = read ∙ ap (λ (r : List ℕ). text ++ r) ended ∙ append-nil text in cc

-- no more is taken of it than it has
no_longer : (from to : Option (List ℕ)) (text all : List ℕ) → from ≡ Some all → Consumes from to text → length text ≤ length all
no_longer None to text all is read = absurd (cc)
no_longer (Some x) None text all is read = absurd read
no_longer (Some x) (Some rest) text all is read =
    let e : all ≡ text ++ rest = cc in
    let n : length all ≡ length text + length rest = ap (λ (l : List ℕ). length l) e ∙ length-append text rest in
    omega (arith, n)

too_long : (limit n m : ℕ) → n ≡ limit + 1 → n ≤ m → m ≤ limit → ⊥
too_long limit n m long less short = absurd (omega arith)

at_limit : (limit n : ℕ) → limit ≤ n → n < limit → ⊥
at_limit limit n le less = absurd (omega arith)

module _ (h : CheckChange) (c : Catalogue) (r : Replayed) (ready : IsReady h c r) (quiet : NothingFails h) where
  -- the disk isn't refused
  not_refused : (cause : OpenFault) → IsRefused c h.disk cause → ⊥
  not_refused fault.NotACache x = let o = ready.order.opens ready.told in not_none _ o.version o.bodies (x ready.told) o.opens
  not_refused (fault.CatalogueDiffers found asked) x = let o = ready.order.opens ready.told in not_other _ found o.version o.bodies (x.1 ready.told) o.opens
  not_refused (fault.BadRecord slot) x = bad_or_opened c h.disk ready.told slot r x (ready.order.opens ready.told)
  not_refused fault.Spent x =
      let z = x ready.told in
      let reached : 2 ^ 24 ≤ opening_number r + 1 = subst (λ (t : Replayed). 2 ^ 24 ≤ opening_number t + 1) (opens_once c h.disk.from.seen z.0 r z.1 (ready.order.opens ready.told)) z.2 in
      at_limit (2 ^ 24) (opening_number r + 1) reached ready.order.number
  not_refused fault.DiskFault x = x
  not_refused fault.OutOfMemory x = x

  -- the text of its catalogue's file has no fault, and comes to no other catalogue
  same_catalogue : (read : Catalogue) → IsRead h.catalogue (Ok read) → read ≡ c
  same_catalogue read i = let e : i.text ≡ ready.text = whole_text h.catalogue.from h.catalogue.to i.text ready.text ready.catalogue i.read i.at_end in one_catalogue i.text ready.text e i.comes ready.comes
    where
      one_catalogue : (text all : List ℕ) → text ≡ all → catalogue_of text ≡ Ok read → catalogue_of all ≡ Ok c → read ≡ c
      one_catalogue text all e a b = cc

  by_refusal : (e : Unconfigured) → AreRefused h.catalogue h.capabilities h.capabilities_stay e → (status_of_refusal e ≡ status.Done) ⊎ (status_of_refusal e ≡ status.OutOfMemory)
  by_refusal unconfigured.ReadFault (inl x) = absurd (quiet.catalogue x.0)
  by_refusal unconfigured.ReadFault (inr x) = absurd (quiet.capabilities x.2)
  by_refusal unconfigured.TooLong (inl x) = absurd (too_long CATALOGUE_LIMIT (length x.0.0) (length ready.text) x.0.2 (no_longer h.catalogue.from h.catalogue.to x.0.0 ready.text ready.catalogue x.0.1) ready.short)
  by_refusal unconfigured.TooLong (inr x) = absurd (too_long 4194304 (length x.2.0) (length ready.document) x.2.2 (no_longer h.capabilities.from h.capabilities.to x.2.0 ready.document ready.capabilities x.2.1) ready.document_short)
  by_refusal (unconfigured.Fault f) x = let i = x.0 in absurd (no_fault i.text ready.text (whole_text h.catalogue.from h.catalogue.to i.text ready.text ready.catalogue i.read i.at_end) i.comes ready.comes)
    where
      no_fault : (text all : List ℕ) → text ≡ all → catalogue_of text ≡ Err f → catalogue_of all ≡ Ok c → ⊥
      no_fault text all e a b = cc
  by_refusal unconfigured.OutOfMemory x = inr refl

  by_look : (document : List ℕ) (s : Status) → Checks c document h.disk h.output h.output_stays s → (s ≡ status.Done) ⊎ (s ≡ status.OutOfMemory)
  by_look document status.Done x = inl refl
  by_look document status.OutOfMemory x = inr refl
  by_look document status.WriteFault x = absurd (quiet.output x.2.1)
  by_look document (status.Cache cause) x = absurd (not_refused cause x.0)
  by_look document status.DiskFault x = absurd (quiet.disk x.0)
  by_look document status.ReadFault x = absurd x
  by_look document status.TooLong x = absurd x
  by_look document (status.Form cause) x = absurd x
  by_look document status.CutsFull x = absurd x
  by_look document (status.Line n) x = absurd x
  by_look document (status.Stream session) x = absurd x
  by_look document status.Usage x = absurd x
  by_look document (status.Catalogue f) x = absurd x
  by_look document status.ListenFault x = absurd x
  by_look document status.ThreadFault x = absurd x

  done : (s : Status) → CheckTells true h s → (s ≡ status.Done) ⊎ (s ≡ status.OutOfMemory)
  done s (inl x) = subst (λ (t : Status). (t ≡ status.Done) ⊎ (t ≡ status.OutOfMemory)) (sym x.1) (by_refusal x.0 x.2)
  done s (inr x) = by_look x.1 s (subst (λ (k : Catalogue). Checks k x.1 h.disk h.output h.output_stays s) (same_catalogue x.0 x.2.read) x.3)

pub completed : (is : Bool) (h : CheckChange) (s : Status) → CheckTells is h s → IsComplete is h s
completed false h s told = tt
completed true h s told = λ c r ready quiet. done h c r ready quiet s told
