-- What is known of bytes in which no message was found.
use Rattle.std.proofs.Common.{Bool, true, false, if◌then◌else◌, ◌≡◌, ℕ, ◌<◌, ◌≤◌, inl, inr, Option, Some, None, List, [], ◌∷◌, ◌++◌, length, length-append, take, sym, ◌∙◌, ap, subst, arith, append_assoc, append-nil}
use Rattle.std.proofs.lemmas.List.{take-append-le, take_all}
use Rattle.http_wire.specs.Looks.{HoldsHead, MayHaveHead}
use Rattle.http_wire.specs.Messages.{IsNext, HoldsMessage}
use Rattle.http_wire.specs.declared.message.Message.{Message}
use Rattle.http_wire.proofs.NoHeadYet.{head_ends}
use Rattle.tcp_lanes.specs.Ends.{NeedsBytes, MessageEndsAs}
use Rattle.tcp_lanes.specs.declared.intake.Front.{Front}
use Rattle.tcp_lanes.specs.declared.message_ends.MessageEnd.TheVariants.{Whole}
use Rattle.tcp_lanes.specs.Intakes.{Taken, at_hand, IsSearched, HoldsNone, IsHopeful, LooksAs, SearchesAs}
use Rattle.tcp_lanes.proofs.Messages.{none_held}

-- bytes, how many are at hand, and how many of these were given
abbrev pub taken : List ℕ → ℕ → ℕ → Taken
taken bytes n given = record { bytes = bytes; at_hand = n; given = given }

-- a message has a head
head_of_message : (bytes : List ℕ) → HoldsMessage bytes → HoldsHead bytes
head_of_message bytes holds = (holds.2.head, holds.0.body ++ holds.1, holds.2.begins)

-- no bytes hold none
nothing_held : HoldsHead [] → ⊥
nothing_held holds =
    let ends = head_ends holds.0 in
    let bytes : [] ≡ (ends.0 ++ 10 ∷ []) ++ holds.1 = holds.2.reads.1 ∙ ap (λ (l : List ℕ). l ++ holds.1) ends.1 in
    let count : 0 ≡ length ((ends.0 ++ 10 ∷ []) ++ holds.1) = ap length bytes in
    omega (arith, count, length-append (ends.0 ++ 10 ∷ []) holds.1, length-append ends.0 (10 ∷ []))

pub none_at_first : (bytes : List ℕ) → IsSearched bytes 0 0
none_at_first bytes = record { within = omega arith; messageless = λ holds. nothing_held (head_of_message [] holds); headless = λ _ holds. nothing_held holds; none = λ more short _. absurd (omega (arith, short)) }

pub whole_is_some : (bytes : List ℕ) (n : ℕ) (message : Message) → IsNext (take n bytes) message [] → n ≡ 0 → ⊥
whole_is_some bytes n message next e = nothing_held (head_of_message [] (subst (λ (k : ℕ). HoldsMessage (take k bytes)) e (message, [], next)))

-- no message is whole before so many bytes are there
none_short : (held : List ℕ) (needed : ℕ) → length held < needed → ((more : List ℕ) → length (held ++ more) < needed → HoldsMessage (held ++ more) → ⊥) → HoldsMessage held → ⊥
none_short held needed short none holds = none [] (subst (λ (l : List ℕ). length l < needed) (sym (append-nil held)) short) (subst HoldsMessage (sym (append-nil held)) holds)

-- all bytes are searched
all_searched : (held : List ℕ) (needed : ℕ) → (HoldsMessage held → ⊥) → (needed ≡ 0 → HoldsHead held → ⊥) → ((more : List ℕ) → length (held ++ more) < needed → HoldsMessage (held ++ more) → ⊥) → HoldsNone held needed
all_searched held needed no_message no_head none = (
  record {
    within = omega arith;
    messageless = λ holds. no_message (subst HoldsMessage (take_all (length held) held (omega arith)) holds);
    headless = λ e holds. no_head e (subst HoldsHead (take_all (length held) held (omega arith)) holds);
    none = none;
  },
  no_message,
)

pub none_new_searched : (held : List ℕ) (searched needed : ℕ) → length held ≤ searched → IsSearched held searched needed → HoldsMessage held → ⊥
none_new_searched held searched needed all is holds = is.messageless (subst HoldsMessage (sym (take_all searched held all)) holds)

-- SKIPPED LOOKS

pub none_needed : (held : List ℕ) (searched needed : ℕ) → length held < needed → IsSearched held searched needed → HoldsNone held needed
none_needed held searched needed short is = all_searched held needed (none_short held needed short is.none) (λ e _. absurd (omega (arith, e, short))) is.none

pub none_headless : (held : List ℕ) (searched needed : ℕ) → needed ≡ 0 → ((HoldsHead (take searched held) → ⊥) → HoldsHead held → ⊥) → IsSearched held searched needed → HoldsNone held needed
none_headless held searched needed unset still is =
    let none : HoldsHead held → ⊥ = still (is.headless unset) in all_searched held needed (λ holds. none (head_of_message held holds)) (λ _. none) is.none

-- LOOKS

headless_searched : (held : List ℕ) (needed : ℕ) → MayHaveHead held → ((more : List ℕ) → length (held ++ more) < needed → HoldsMessage (held ++ more) → ⊥) → IsSearched held (length held) needed
headless_searched held needed may none = let all = all_searched held needed (λ holds. none_held held may (head_of_message held holds)) (λ _. none_held held may) none in all.0

pub short_kept : (held slice : List ℕ) (message searched needed : ℕ) → slice ≡ held → searched ≡ length held → NeedsBytes slice needed → message ≤ length held → (message ≤ length held) × (message ≡ 0 → IsSearched held searched needed)
short_kept held slice message searched needed e all needs fits =
    let here : NeedsBytes held needed = subst (λ (l : List ℕ). NeedsBytes l needed) e needs in
    let searches = all_searched held needed (none_short held needed here.short here.none) (λ unset _. absurd (omega (arith, unset, here.short))) here.none in (
      fits,
      λ _. subst (λ (n : ℕ). IsSearched held n needed) (sym all) searches.0,
    )

pub whole_kept : (held slice : List ℕ) (n searched needed : ℕ) → slice ≡ held → MessageEndsAs slice (Whole n) → (n ≤ length held) × (n ≡ 0 → IsSearched held searched needed)
whole_kept held slice n searched needed e ends =
    let here : MessageEndsAs held (Whole n) = subst (λ (l : List ℕ). MessageEndsAs l (Whole n)) e ends in (
      here.0,
      λ zero. absurd (whole_is_some held n here.1 here.2 zero),
    )

pub headless_kept : (held slice : List ℕ) (message old searched needed : ℕ) → slice ≡ held → searched ≡ length held → MayHaveHead slice → (message ≤ length held) × (message ≡ 0 → IsSearched held old needed)
    → (message ≤ length held) × (message ≡ 0 → IsSearched held searched needed)
headless_kept held slice message old searched needed e all may before = (
  before.0,
  λ zero. subst (λ (n : ℕ). IsSearched held n needed) (sym all) (headless_searched held needed (subst MayHaveHead e may) (before.1 zero).none),
)

pub hopeless_found : (view : Taken) (held slice : List ℕ) (message given n : ℕ) → taken held message given ≡ view → slice ≡ held → n ≡ length held → ((more : List ℕ) → HoldsMessage (slice ++ more) → ⊥)
    → (taken held n given ≡ at_hand (length view.bytes) view) × ((more : List ℕ) → HoldsMessage (view.bytes ++ more) → ⊥)
hopeless_found view held slice message given n e s all never =
    subst (λ (v : Taken). (taken held n given ≡ at_hand (length v.bytes) v) × ((more : List ℕ) → HoldsMessage (v.bytes ++ more) → ⊥)) e (
      ap (λ (k : ℕ). taken held k given) all,
      subst (λ (l : List ℕ). (more : List ℕ) → HoldsMessage (l ++ more) → ⊥) s never,
    )

-- a look that finds none leaves no whole message
none_hopeful : (bytes : List ℕ) → IsHopeful bytes → HoldsMessage bytes → ⊥
none_hopeful bytes (inl may) holds = none_held bytes may (head_of_message bytes holds)
none_hopeful bytes (inr needs) holds = none_short bytes needs.0 needs.1.short needs.1.none holds

pub looked_searches : (old new : Taken) (result : Option Front) → LooksAs old new result → SearchesAs old new result
looked_searches old new None looks = (looks.0, λ _ holds. none_hopeful old.bytes looks.1 holds)
looked_searches old new (Some front) looks = looks

-- MORE BYTES

more_searched : (held more : List ℕ) (searched needed : ℕ) → IsSearched held searched needed → IsSearched (held ++ more) searched needed
more_searched held more searched needed is =
    record {
      within = omega (arith, is.within, length-append held more);
      messageless = λ holds. is.messageless (subst HoldsMessage (take-append-le searched held more is.within) holds);
      headless = λ e holds. is.headless e (subst HoldsHead (take-append-le searched held more is.within) holds);
      none = λ rest. subst (λ (l : List ℕ). length l < needed → HoldsMessage l → ⊥) (sym (append_assoc held more rest)) (is.none (more ++ rest));
    }

pub added_kept : (ok : Bool) (held more new : List ℕ) (message searched needed : ℕ) → new ≡ (if ok then held ++ more else held) → (message ≤ length held) × (message ≡ 0 → IsSearched held searched needed)
    → (message ≤ length new) × (message ≡ 0 → IsSearched new searched needed)
added_kept false held more new message searched needed e before = subst (λ (l : List ℕ). (message ≤ length l) × (message ≡ 0 → IsSearched l searched needed)) (sym e) before
added_kept true held more new message searched needed e before =
    subst (λ (l : List ℕ). (message ≤ length l) × (message ≡ 0 → IsSearched l searched needed)) (sym e) (
      omega (arith, before.0, length-append held more),
      λ unset. more_searched held more searched needed (before.1 unset),
    )
