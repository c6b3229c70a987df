-- The tally of places that ended, with one more behind.
use Rattle.std.specs.Prelude.{count_by}
use Rattle.std.proofs.Common.{ℕ, suc, ◌≡◌, ◌≤◌, ◌+◌, Bool, true, false, not, cond, List, [], ◌∷◌, ◌++◌, length, refl, sym, ◌∙◌, length-append, arith}
use Rattle.std.proofs.lemmas.List.Sums.{sum_by-append, sum_by-cons}
use Rattle.job_places.specs.declared.place.PlaceEnd.{PlaceEnd}
use Rattle.job_places.specs.declared.place.PlaceEnd.TheVariants.{Done, Failed, Unkept}
use Rattle.job_places.specs.declared.tally.Tally.{Tally}
use Rattle.job_places.specs.Ends.{is_done, is_unkept}
use Rattle.job_places.specs.Tallies.{one_more, tally_of}

same_tally : {a b d e f g h i : ℕ} → a ≡ b → d ≡ e → f ≡ g → h ≡ i → ◌≡◌ {A = Tally} (record { places = a; done = d; failed = f; unkept = h }) (record { places = b; done = e; failed = g; unkept = i })
same_tally a b c d = cc

tally_step : (e : PlaceEnd) (all don fai unk : ℕ) → one_more e (record { places = all; done = don; failed = fai; unkept = unk })
    ≡ record { places = all + 1; done = don + (0 + cond (is_done e) 1 0); failed = fai + (0 + cond (not (is_done e)) 1 0); unkept = unk + (0 + cond (is_unkept e) 1 0) }
tally_step Done all don fai unk = same_tally refl (omega arith) (omega arith) (omega arith)
tally_step Unkept all don fai unk = same_tally refl (omega arith) (omega arith) (omega arith)
tally_step (Failed cause) all don fai unk = same_tally refl (omega arith) (omega arith) (omega arith)

pub tally_more : (ends : List PlaceEnd) (e : PlaceEnd) → one_more e (tally_of ends) ≡ tally_of (ends ++ e ∷ [])
tally_more ends e =
    tally_step e (length ends) (count_by is_done ends) (count_by (λ x. not (is_done x)) ends) (count_by is_unkept ends)
    ∙ same_tally (sym (length-append ends (e ∷ []))) (sym (sum_by-append _ ends (e ∷ []))) (sym (sum_by-append _ ends (e ∷ []))) (sym (sum_by-append _ ends (e ∷ [])))

split_one : (b : Bool) (done left all : ℕ) → done + left ≡ all → cond b 1 0 + done + (cond (not b) 1 0 + left) ≡ suc all
split_one true done left all h = omega (arith, h)
split_one false done left all h = omega (arith, h)

-- each place that isn't done failed
pub adds_up : (ends : List PlaceEnd) → (tally_of ends).done + (tally_of ends).failed ≡ (tally_of ends).places
adds_up [] = refl
adds_up (e ∷ ends) =
    rw (sum_by-cons (λ (x : PlaceEnd). cond (is_done x) 1 0) e ends, sum_by-cons (λ (x : PlaceEnd). cond (not (is_done x)) 1 0) e ends)
    (split_one (is_done e) (tally_of ends).done (tally_of ends).failed (length ends) (adds_up ends))

unkept_done : (e : PlaceEnd) → cond (is_unkept e) 1 0 ≤ cond (is_done e) 1 0
unkept_done Done = omega arith
unkept_done Unkept = omega arith
unkept_done (Failed cause) = omega arith

-- each place that could not be kept is done
pub unkept_within : (ends : List PlaceEnd) → (tally_of ends).unkept ≤ (tally_of ends).done
unkept_within [] = omega arith
unkept_within (e ∷ ends) =
    let u = sum_by-cons (λ (x : PlaceEnd). cond (is_unkept x) 1 0) e ends in
    let d = sum_by-cons (λ (x : PlaceEnd). cond (is_done x) 1 0) e ends in
    omega (arith, u, d, unkept_done e, unkept_within ends)

pub one_counted : (e : PlaceEnd) (t : Tally) → (one_more e t).places ≡ t.places + 1
one_counted Done t = refl
one_counted Unkept t = refl
one_counted (Failed cause) t = refl
