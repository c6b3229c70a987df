-- What holds of the parts of a shelf, and what is left of it when a metatile is kept, is dropped, or some are.
use Rattle.std.proofs.Common.{ℕ, ◌≡◌, ◌+◌, ◌^◌, ◌<◌, ◌≤◌, Bool, true, false, cond, not, ◌||◌, List, [], ◌∷◌, ◌++◌, ◌==◌, length, map, filter, find, Option, Some, None, refl, sym, ap, subst, ◌∙◌, arith, length-append}
use Rattle.std.specs.Prelude.{Contains, IfNone, IfSome, IsSome, is_some}
use Rattle.std.specs.List.{AllByRecursion, list_any}
use Rattle.std.specs.Option.{option_map, option_or}
use Rattle.std.proofs.lemmas.List.{length-map, map-append}
use Rattle.std.proofs.lemmas.List.Folds.{find-append}
use Rattle.std.proofs.lemmas.List.Sums.{sum_by-cons}
use Rattle.catalog.specs.declared.catalogue.Catalogue.{Catalogue}
use Rattle.catalog.specs.declared.catalogue.Scope.{Scope}
use Rattle.catalog.specs.Scopes.{is_in}
use Rattle.expiry_policy.specs.declared.uses.Use.{Use}
use Rattle.expiry_policy.specs.Victims.{Counts, IsUnsaved, IsVictim, one_more, use_of}
use Rattle.expiry_policy.specs.Victims as victims
use Rattle.extent_map.specs.declared.part as extent
use Rattle.extent_map.specs.Parts.{LieInOrder, inserted, part_at}
use Rattle.extent_map.specs.Spaces.{IsFree, IsTaken, NoneFree, NoneFreeBelow, Space}
use Rattle.metatile_plan.specs.declared.metatile.MetaKey.{MetaKey}
use Rattle.metatile_plan.specs.Keys.{same_meta}
use Rattle.metatile_plan.proofs.Same.{same_meta_is, same_meta_self}
use Rattle.quota_ledger.specs.Accounts.{Accounts, Part, accounts, added, exceeded, removed, used_at}
use Rattle.quota_ledger.specs.Accounts as ledgers
use Rattle.quota_ledger.proofs.Holding.{holds_some}
use Rattle.quota_ledger.proofs.Counting.{added_part, same_layers, sums_of}
use Rattle.metatile_locks.proofs.Lists.{all_filter, few, find_filter, found, none_passes}
use Rattle.cabinet.specs.declared.kept.Kept.{Kept}
use Rattle.cabinet.specs.declared.kept.KeptBlob.{KeptBlob}
use Rattle.cabinet.specs.Counted.{part_of}
use Rattle.cabinet.specs.Gaps.{gap_for, lowest_gap, regions, region}
use Rattle.cabinet.specs.History.{but, is_of, with_uses}
use Rattle.cabinet.specs.Shelved.{IsCountedIn, IsShelved, LeavesUses, listed, with_forgotten, with_saved, with_used, without}
use Rattle.cabinet.specs.State.{IsLong, blobs_counted}
use Rattle.cabinet.proofs.Bytes.{bytes_filter, bytes_within, older_counted, older_out}
use Rattle.cabinet.proofs.Lists.{all_of, all_push, any_map, find_map, map_filter}
use Rattle.cabinet.proofs.Numbers.{apart_filter, apart_push}
use Rattle.cabinet.proofs.Once.{AreOnce, but_apart, but_none, one_kept}
use Rattle.cabinet.proofs.Regions.{alone, gap_at, has_inserted, last_of, no_gap, one_of, taken_out}
use Rattle.cabinet.proofs.Sentences.{but_is, stored_at}
use Rattle.cabinet.proofs.UsesAfter.{same_swap}
use Rattle.cabinet.proofs.WithUses.{all_set, apart_set, blobs_set, found_set, listed_set, map_set, regions_set}
use Rattle.raster_field.specs.Blocks.{blob_size}

-- the list of those that pass is what passes of the list
pub listed_filter : (q : Kept → Bool) (blobs : List KeptBlob) → listed (filter (λ b. q b.kept) blobs) ≡ filter q (listed blobs)
listed_filter q blobs = map_filter (λ (b : KeptBlob). b.kept) q blobs

pub listed_put : (t : Kept) (text : List ℕ) (blobs : List KeptBlob) → listed (filter (λ b. not (is_of t.meta b.kept)) blobs ++ record { kept = t; text = text } ∷ []) ≡ but t.meta (listed blobs) ++ t ∷ []
listed_put t text blobs =
    map-append (λ (b : KeptBlob). b.kept) (filter (λ b. not (is_of t.meta b.kept)) blobs) (record { kept = t; text = text } ∷ []) ∙ ap (λ (ts : List Kept). ts ++ t ∷ []) (listed_filter (λ x. not (is_of t.meta x)) blobs)

-- WHICH METATILES HAVE USES

some_both : {X Y : Type 0} (v : Bool) (a : Option X) (b : Option Y) → is_some a ≡ is_some b → is_some (cond v a None) ≡ is_some (cond v b None)
some_both true a b e = e
some_both false a b e = refl

some_either : {X Y : Type 0} (v : Bool) (x : X) (y : Y) (a : Option X) (b : Option Y) → is_some a ≡ is_some b → is_some (cond v (Some x) a) ≡ is_some (cond v (Some y) b)
some_either true x y a b e = refl
some_either false x y a b e = e

some_used : (v : Bool) (f : Use → Use) (o : Option Use) → is_some (cond v (option_map f o) o) ≡ is_some o
some_used true f None = refl
some_used true f (Some u) = refl
some_used false f o = refl

some_mapped : {X Y : Type 0} (f : X → Y) (o : Option X) → is_some (option_map f o) ≡ is_some o
some_mapped f None = refl
some_mapped f (Some x) = refl

pub turned : {X : Type 0} (v : Bool) (o : Option X) → cond (not v) o None ≡ cond v None o
turned true o = refl
turned false o = refl

-- what is found of a metatile where one is put in the place of its older one
put_is : (k : MetaKey) (t : Kept) (ts : List Kept) → find (is_of k) (but t.meta ts ++ t ∷ []) ≡ cond (same_meta t.meta k) (Some t) (find (is_of k) ts)
put_is k t ts =
    find-append (is_of k) (but t.meta ts) (t ∷ []) ∙ ap (λ (f : Option Kept). option_or f (cond (same_meta t.meta k) (Some t) None)) (but_is k t.meta ts) ∙ stored_at t (same_meta t.meta k) (find (is_of k) ts)

-- where something of a scope is kept, one such thing is found
one_in : (scope : Scope) (ts : List Kept) → list_any (λ t. is_in scope t.meta.theme.layer) ts ≡ true → (t : Kept) × (is_in scope t.meta.theme.layer ≡ true) × (is_some (find (is_of t.meta) ts) ≡ true)
one_in scope [] e = let f : false ≡ true = e in absurd (cc)
one_in scope (t ∷ ts) e = chosen (is_in scope t.meta.theme.layer) refl e (one_in scope ts)
  where
    later : (u : Kept) (v : Bool) → is_some (find (is_of u.meta) ts) ≡ true → is_some (cond v (Some t) (find (is_of u.meta) ts)) ≡ true
    later u true h = refl
    later u false h = h

    chosen : (v : Bool) → is_in scope t.meta.theme.layer ≡ v → (v || list_any (λ t. is_in scope t.meta.theme.layer) ts) ≡ true
        → (list_any (λ t. is_in scope t.meta.theme.layer) ts ≡ true → (u : Kept) × (is_in scope u.meta.theme.layer ≡ true) × (is_some (find (is_of u.meta) ts) ≡ true))
        → (u : Kept) × (is_in scope u.meta.theme.layer ≡ true) × (is_some (find (is_of u.meta) (t ∷ ts)) ≡ true)
    chosen true is e ih = (t, is, rw (same_meta_self t.meta) refl)
    chosen false is e ih = let r = ih e in (r.0, r.1, later r.0 (same_meta t.meta r.0.meta) r.2)

-- what is found has its metatile's length
pub found_long : (c : Catalogue) (blobs : List KeptBlob) (m : MetaKey) (b : KeptBlob) → AllByRecursion (IsLong c) blobs → find (λ x. is_of m x.kept) blobs ≡ Some b → length b.text ≡ blob_size c m
found_long c blobs m b long e =
    let f = found (λ (x : KeptBlob). is_of m x.kept) (IsLong c) blobs b long e in
    f.1.0 ∙ f.1.1 ∙ ap (blob_size c) (same_meta_is b.kept.meta m f.0)

-- what is listed is there with its blob
pub some_blob : (m : MetaKey) (blobs : List KeptBlob) (t : Kept) → find (is_of m) (listed blobs) ≡ Some t → IsSome (find (λ b. is_of m b.kept) blobs)
some_blob m blobs t e = some_at (find (λ b. is_of m b.kept) blobs) (sym (find_map (λ (b : KeptBlob). b.kept) (is_of m) blobs) ∙ e)
  where
    some_at : (o : Option KeptBlob) → option_map (λ b. b.kept) o ≡ Some t → IsSome o
    some_at None e = absurd (cc)
    some_at (Some b) e = refl

module _ (c : Catalogue) (blobs : List KeptBlob) (space : Space) (ledger : Accounts) (counts : Counts) (n : IsShelved c blobs space ledger counts) where
  pub its_account : (layer : ℕ) → layer < length c.layers → layer < length ledger.layers
  its_account layer l = omega (arith, l, ap (λ (a : Accounts). length a.layers) n.bytes, same_layers c (map part_of (listed blobs)))

  -- the layer of a metatile is one of the accounts', and of the uses'
  pub within_layers : (m : MetaKey) → m.theme.layer < length c.layers → (m.theme.layer < length ledger.layers) × (m.theme.layer < counts.layers)
  within_layers m l = (its_account m.theme.layer l, omega (arith, n.layers, l))

  -- ONE THAT IS KEPT

  -- the bytes of what is kept of a metatile are counted, and can be counted out
  pub older_in : (m : MetaKey) (older : Option Kept) → older ≡ find (is_of m) (listed blobs) → IfSome older (IsCountedIn ledger)
  older_in m older e = older_counted c (listed blobs) n.once n.within ledger n.bytes m older e

  pub older_gone : (m : MetaKey) (older : Option Kept) → older ≡ find (is_of m) (listed blobs) → without older ledger ≡ accounts c (map part_of (but m (listed blobs)))
  older_gone m older e = older_out c (listed blobs) n.once n.within ledger n.bytes m older e

  pub its_key : (m : MetaKey) (t : Kept) → find (is_of m) (listed blobs) ≡ Some t → t.meta ≡ m
  its_key m t e = same_meta_is t.meta m (found (is_of m) (λ x. Unit {0}) (listed blobs) t (all_of (λ x. Unit {0}) (listed blobs) (λ x has. tt)) e).0

  -- it has uses
  pub key_held : (m : MetaKey) → IsSome (find (is_of m) (listed blobs)) → IsSome (use_of counts m)
  key_held m some = n.keys m ∙ some

  pub goes_held : (m : MetaKey) (t : Kept) → find (is_of m) (listed blobs) ≡ Some t → IsSome (use_of counts t.meta)
  goes_held m t e = subst (λ (key : MetaKey). IsSome (use_of counts key)) (sym (its_key m t e)) (key_held m (rw e refl))

  -- ITS REGION

  its_region : (m : MetaKey) (t : Kept) → find (is_of m) (listed blobs) ≡ Some t → space.parts ≡ inserted (region t) (regions (but m (listed blobs)))
  its_region m t e =
      let one = one_kept m t (listed blobs) n.once e in
      let parts = n.parts ∙ ap regions one.there in
      parts ∙ one_of 0 one.before t one.behind space.size (subst (λ (ps : List extent.Extent.Extent). LieInOrder 0 ps space.size) parts n.order) ∙ ap (λ (ts : List Kept). inserted (region t) (regions ts)) (sym one.others)

  -- is taken
  pub region_taken : (m : MetaKey) (t : Kept) → find (is_of m) (listed blobs) ≡ Some t → Contains space.parts (region t)
  region_taken m t e = subst (λ (ps : List extent.Extent.Extent). Contains ps (region t)) (sym (its_region m t e)) (has_inserted (region t) (regions (but m (listed blobs))))

  -- and is given back
  region_given : (m : MetaKey) (t : Kept) (given : Space) → find (is_of m) (listed blobs) ≡ Some t → IsTaken given (region t) space → given.parts ≡ regions (but m (listed blobs))
  region_given m t given e taken =
      taken_out 0 (region t) given.parts (regions (but m (listed blobs))) space.size (subst (λ (ps : List extent.Extent.Extent). LieInOrder 0 ps space.size) taken.entered n.order) (sym taken.entered ∙ its_region m t e)

  -- ONE IS USED

  pub listed_some : (m : MetaKey) → IsSome (find (λ b. is_of m b.kept) blobs) → IsSome (find (is_of m) (listed blobs))
  listed_some m some = some_at (find (λ b. is_of m b.kept) blobs) some (find_map (λ (b : KeptBlob). b.kept) (is_of m) blobs)
    where
      some_at : (o : Option KeptBlob) → IsSome o → find (is_of m) (listed blobs) ≡ option_map (λ b. b.kept) o → IsSome (find (is_of m) (listed blobs))
      some_at None h e = absurd (cc)
      some_at (Some b) h e = rw e refl

  pub touched_shelved : (m : MetaKey) (at : ℕ) (counts' : Counts) → counts'.policy ≡ counts.policy → counts'.layers ≡ counts.layers → ((k : MetaKey) → use_of counts' k ≡ with_used m at (use_of counts) k) → IsShelved c blobs space ledger counts'
  touched_shelved m at counts' policy layers uses = record {
    valid = n.valid;
    once = n.once;
    within = n.within;
    lengths = n.lengths;
    few = n.few;
    parts = n.parts;
    size = n.size;
    order = n.order;
    bytes = n.bytes;
    policy = policy ∙ n.policy;
    layers = layers ∙ n.layers;
    keys = λ k. ap is_some (uses k) ∙ some_used (same_meta k m) (victims.used_at at) (use_of counts k) ∙ n.keys k;
  }

  -- THE USES OF ONE ARE SAVED

  pub counted_shelved : (m : MetaKey) (u : ℕ) (counts' : Counts) → counts'.policy ≡ counts.policy → counts'.layers ≡ counts.layers → ((k : MetaKey) → use_of counts' k ≡ with_saved m (use_of counts) k) → IsShelved c (blobs_counted m u blobs) space ledger counts'
  counted_shelved m u counts' policy layers uses =
      let list : listed (blobs_counted m u blobs) ≡ map (with_uses m u) (listed blobs) = listed_set m u blobs in
      let few = n.few in
      let set : KeptBlob → KeptBlob = λ b. record { kept = with_uses m u b.kept; text = b.text } in
      let long = length-map blobs set in
      record {
        valid = n.valid;
        once = subst AreOnce (sym list) (apart_set m u (λ (t : Kept). t.meta) (λ t. refl) (listed blobs) n.once);
        within = subst (AllByRecursion (λ (t : Kept). t.meta.theme.layer < length c.layers)) (sym list) (all_set m u (λ (t : Kept). t.meta.theme.layer < length c.layers) (λ t l. l) (listed blobs) n.within);
        lengths = blobs_set m u (IsLong c) (λ b long. long) blobs n.lengths;
        few = omega (arith, long, few);
        parts = n.parts ∙ sym (regions_set m u (listed blobs)) ∙ ap regions (sym list);
        size = n.size;
        order = n.order;
        bytes = n.bytes ∙ ap (accounts c) (sym (map_set m u part_of (λ t. refl) (listed blobs))) ∙ ap (λ (ts : List Kept). accounts c (map part_of ts)) (sym list);
        policy = policy ∙ n.policy;
        layers = layers ∙ n.layers;
        keys = λ k. ap is_some (uses k) ∙ some_used (same_meta k m) victims.all_saved (use_of counts k) ∙ n.keys k ∙ sym (some_mapped (with_uses m u) (find (is_of k) (listed blobs)))
            ∙ ap is_some (sym (found_set m u k (listed blobs)) ∙ ap (find (is_of k)) (sym list));
      }

  -- SOME ARE DROPPED

  -- what is left where some are kept on
  pub fewer_shelved : (q : MetaKey → Bool) (given : Space) (ledger' : Accounts) (counts' : Counts) → given.parts ≡ regions (filter (λ t. q t.meta) (listed blobs)) → given.size ≡ space.size → LieInOrder 0 given.parts given.size → ledger' ≡ accounts c (map part_of (filter (λ t. q t.meta) (listed blobs)))
      → LeavesUses counts counts.now (λ k. cond (q k) (use_of counts k) None) counts' → IsShelved c (filter (λ b. q b.kept.meta) blobs) given ledger' counts'
  fewer_shelved q given ledger' counts' parts size order bytes uses =
      let list = listed_filter (λ t. q t.meta) blobs in
      let less = few (λ (b : KeptBlob). q b.kept.meta) blobs in
      let most = n.few in
      record {
        valid = n.valid;
        once = subst AreOnce (sym list) (apart_filter (λ (t : Kept). t.meta) (λ t. q t.meta) (listed blobs) n.once);
        within = subst (AllByRecursion (λ (t : Kept). t.meta.theme.layer < length c.layers)) (sym list) (all_filter (λ (t : Kept). t.meta.theme.layer < length c.layers) (λ t. q t.meta) (listed blobs) n.within);
        lengths = all_filter (IsLong c) (λ b. q b.kept.meta) blobs n.lengths;
        few = omega (arith, less, most);
        parts = parts ∙ ap regions (sym list);
        size = size ∙ n.size;
        order = order;
        bytes = bytes ∙ ap (λ (ts : List Kept). accounts c (map part_of ts)) (sym list);
        policy = uses.policy ∙ n.policy;
        layers = uses.layers ∙ n.layers;
        keys = λ k. ap is_some (uses.uses k) ∙ some_both (q k) (use_of counts k) (find (is_of k) (listed blobs)) (n.keys k)
            ∙ ap is_some (sym (find_filter (is_of k) (λ t. q t.meta) (q k) (λ t at. ap q (same_meta_is t.meta k at)) (listed blobs)) ∙ ap (find (is_of k)) (sym list));
      }

  -- one is forgotten and dropped
  pub dropped_shelved : (m : MetaKey) (t : Kept) (given : Space) (ledger' : Accounts) (counts' : Counts) → find (is_of m) (listed blobs) ≡ Some t → LieInOrder 0 given.parts given.size → IsTaken given (region t) space
      → ledger' ≡ removed t.meta.theme.layer t.length ledger → LeavesUses counts counts.now (with_forgotten t.meta (use_of counts)) counts' → IsShelved c (filter (λ b. not (is_of m b.kept)) blobs) given ledger' counts'
  dropped_shelved m t given ledger' counts' e sound taken bytes uses =
      fewer_shelved (λ k. not (same_meta k m)) given ledger' counts' (region_given m t given e taken) (sym taken.same_size) sound (bytes ∙ older_gone m (Some t) (sym e))
      (record {
        policy = uses.policy;
        layers = uses.layers;
        now = uses.now;
        uses = λ k. uses.uses k ∙ ap (λ (key : MetaKey). cond (same_meta k key) None (use_of counts k)) (its_key m t e) ∙ sym (turned (same_meta k m) (use_of counts k));
      })

  -- ONE MORE IS KEPT

  -- the gap, and where there is none
  gap_of : (bytes : ℕ) (o : Option ℕ) → lowest_gap 0 space.parts space.size bytes ≡ o → gap_for c (listed blobs) bytes ≡ o
  gap_of bytes o e = (λ i. lowest_gap 0 (sym n.parts i) (sym n.size i) bytes) ∙ e

  pub gap_free : (bytes x : ℕ) → IsFree space.parts space.size (part_at x bytes) → NoneFreeBelow space.parts space.size bytes x → gap_for c (listed blobs) bytes ≡ Some x
  gap_free bytes x free below = gap_of bytes (Some x) (gap_at space.parts space.size bytes x n.order free below)

  pub gap_nowhere : (bytes : ℕ) → NoneFree space.parts space.size bytes → gap_for c (listed blobs) bytes ≡ None
  gap_nowhere bytes none = gap_of bytes None (no_gap space.parts space.size bytes n.order none)

  -- what fits is taken where it was to be
  pub taken_there : (t : Kept) (x : ℕ) (taken : Space) → gap_for c (listed blobs) t.length ≡ Some t.place → IsFree space.parts space.size (part_at x t.length) → NoneFreeBelow space.parts space.size t.length x → IsTaken space (part_at x t.length) taken
      → IsTaken space (region t) taken
  taken_there t x taken gap free below took =
      let both : Some x ≡ Some t.place = sym (gap_free t.length x free below) ∙ gap in
      let same : x ≡ t.place = cc in
      subst (λ (y : ℕ). IsTaken space (part_at y t.length) taken) same took

  pub others_are : (m : MetaKey) → length (filter (λ b. not (is_of m b.kept)) blobs) ≡ length (but m (listed blobs))
  others_are m = sym (length-map (filter (λ b. not (is_of m b.kept)) blobs) (λ (b : KeptBlob). b.kept)) ∙ ap length (listed_filter (λ t. not (is_of m t)) blobs)

  module _ (t : Kept) (older : Option Kept) (is : older ≡ find (is_of t.meta) (listed blobs)) (taken : Space) (took : IsTaken space (region t) taken) (order : LieInOrder 0 taken.parts taken.size) where
    -- the new region beside the others
    beside : taken.parts ≡ regions (t ∷ listed blobs)
    beside = took.entered ∙ ap (inserted (region t)) n.parts

    older_region : (o : Kept) → find (is_of t.meta) (listed blobs) ≡ Some o → taken.parts ≡ inserted (region o) (regions (t ∷ but t.meta (listed blobs)))
    older_region o e =
        let one = one_kept t.meta o (listed blobs) n.once e in
        let parts = beside ∙ ap (λ (ts : List Kept). regions (t ∷ ts)) one.there in
        parts
        ∙ one_of 0 (t ∷ one.before) o one.behind taken.size (subst (λ (ps : List extent.Extent.Extent). LieInOrder 0 ps taken.size) parts order)
        ∙ ap (λ (ts : List Kept). inserted (region o) (regions (t ∷ ts))) (sym one.others)

    -- the older region is taken too
    pub older_taken : IfSome older (λ o. Contains taken.parts (region o))
    older_taken = taken_at older is
      where
        taken_at : (o : Option Kept) → o ≡ find (is_of t.meta) (listed blobs) → IfSome o (λ o. Contains taken.parts (region o))
        taken_at None e = tt
        taken_at (Some o) e = subst (λ (ps : List extent.Extent.Extent). Contains ps (region o)) (sym (older_region o (sym e))) (has_inserted (region o) (regions (t ∷ but t.meta (listed blobs))))

    module _ (given : Space) (gave : IfSome older (λ o. IsTaken given (region o) taken)) (left : IfNone older (given ≡ taken)) (sound : LieInOrder 0 given.parts given.size) where
      -- what is left of the regions
      given_parts : given.parts ≡ regions (t ∷ but t.meta (listed blobs))
      given_parts = given_at older is gave left
        where
          given_at : (o : Option Kept) → o ≡ find (is_of t.meta) (listed blobs) → IfSome o (λ o. IsTaken given (region o) taken) → IfNone o (given ≡ taken) → given.parts ≡ regions (t ∷ but t.meta (listed blobs))
          given_at None e gave left = ap (λ (x : Space). x.parts) left ∙ beside ∙ ap (λ (ts : List Kept). regions (t ∷ ts)) (sym (but_none t.meta (listed blobs) (none_passes (is_of t.meta) (listed blobs) (sym e))))
          given_at (Some o) e gave left =
              taken_out 0 (region o) given.parts (regions (t ∷ but t.meta (listed blobs))) taken.size (subst (λ (ps : List extent.Extent.Extent). LieInOrder 0 ps taken.size) gave.entered order) (sym gave.entered ∙ older_region o (sym e))

      given_size : given.size ≡ space.size
      given_size = size_at older gave left ∙ took.same_size
        where
          size_at : (o : Option Kept) → IfSome o (λ o. IsTaken given (region o) taken) → IfNone o (given ≡ taken) → given.size ≡ taken.size
          size_at None gave left = ap (λ (x : Space). x.size) left
          size_at (Some o) gave left = sym gave.same_size

      pub given_spare : space.spare ≤ given.spare + 1
      given_spare = spare_at older gave left
        where
          spare_at : (o : Option Kept) → IfSome o (λ o. IsTaken given (region o) taken) → IfNone o (given ≡ taken) → space.spare ≤ given.spare + 1
          spare_at None gave left = omega (arith, took.one_less, ap (λ (x : Space). x.spare) left)
          spare_at (Some o) gave left = omega (arith, took.one_less, gave.one_less)

      -- the shelf with one more
      pub kept_shelved : (text : List ℕ) (u : Use) (ledger' : Accounts) (counts' : Counts) → length text ≡ t.length → t.length ≡ blob_size c t.meta → t.meta.theme.layer < length c.layers → length (but t.meta (listed blobs)) < c.kept_limit → ledger' ≡ added t.meta.theme.layer t.length (without older ledger)
          → LeavesUses counts (one_more counts.now) (λ k. cond (same_meta k t.meta) (Some u) (use_of counts k)) counts' → IsShelved c (filter (λ b. not (is_of t.meta b.kept)) blobs ++ record { kept = t; text = text } ∷ []) given ledger' counts'
      kept_shelved text u ledger' counts' long_text long_blob layer others bytes uses =
          let list = listed_put t text blobs in
          let rest = but t.meta (listed blobs) in
          let ordered : LieInOrder 0 (regions (t ∷ but t.meta (listed blobs))) given.size = subst (λ (ps : List extent.Extent.Extent). LieInOrder 0 ps given.size) given_parts sound in
          let pushed = last_of t (but t.meta (listed blobs)) (alone 0 (region t) (regions (but t.meta (listed blobs))) given.size ordered).places in
          let long = length-append (filter (λ b. not (is_of t.meta b.kept)) blobs) (record { kept = t; text = text } ∷ []) in
          record {
            valid = n.valid;
            once = subst AreOnce (sym list) (apart_push (λ (x : Kept). x.meta) (but t.meta (listed blobs)) t (apart_filter (λ (x : Kept). x.meta) (λ x. not (is_of t.meta x)) (listed blobs) n.once) (but_apart t.meta (listed blobs)));
            within = subst (AllByRecursion (λ (x : Kept). x.meta.theme.layer < length c.layers)) (sym list)
                (all_push (λ (x : Kept). x.meta.theme.layer < length c.layers) (but t.meta (listed blobs)) t (all_filter (λ (x : Kept). x.meta.theme.layer < length c.layers) (λ x. not (is_of t.meta x)) (listed blobs) n.within) layer);
            lengths = all_push (IsLong c) (filter (λ b. not (is_of t.meta b.kept)) blobs) (record { kept = t; text = text })
                (all_filter (IsLong c) (λ b. not (is_of t.meta b.kept)) blobs n.lengths) (long_text, long_blob);
            few = omega (arith, long, others_are t.meta, others);
            parts = given_parts ∙ sym pushed ∙ ap regions (sym list);
            size = given_size ∙ n.size;
            order = sound;
            bytes = bytes ∙ ap (added t.meta.theme.layer t.length) (older_gone t.meta older is) ∙ added_part c (map part_of (but t.meta (listed blobs))) (part_of t) layer
                ∙ ap (accounts c) (sym (map-append part_of (but t.meta (listed blobs)) (t ∷ []))) ∙ ap (λ (ts : List Kept). accounts c (map part_of ts)) (sym list);
            policy = uses.policy ∙ n.policy;
            layers = uses.layers ∙ n.layers;
            keys = λ k. ap is_some (uses.uses k)
                ∙ ap (λ (v : Bool). is_some (cond v (Some u) (use_of counts k))) (same_swap k t.meta)
                ∙ some_either (same_meta t.meta k) u t (use_of counts k) (find (is_of k) (listed blobs)) (n.keys k)
                ∙ ap is_some (sym (put_is k t (listed blobs)) ∙ ap (find (is_of k)) (sym list));
          }

    -- the bytes of what has a region beside the others' are few enough
    pub fits_beside : (without older ledger).whole.used + t.length < 2 ^ 64
    fits_beside =
        let whole = ap (λ (a : Accounts). a.whole.used) (older_gone t.meta older is) in
        let all = bytes_within (t ∷ listed blobs) taken.size (subst (λ (ps : List extent.Extent.Extent). LieInOrder 0 ps taken.size) beside order) in
        let sum = sum_by-cons (λ (p : Part). p.length) (part_of t) (map part_of (listed blobs)) in
        let less = fewer_bytes in
        omega (arith, whole, sum, less, all, took.same_size, n.size, n.valid.blob_bytes_most)
      where
        fewer_bytes : ledgers.used_all (map part_of (but t.meta (listed blobs))) ≤ ledgers.used_all (map part_of (listed blobs))
        fewer_bytes = bytes_filter (λ x. not (is_of t.meta x)) (listed blobs)

  -- WHAT IS TOLD

  pub layer_used : (layer : ℕ) → layer < length c.layers → used_at ledger layer ≡ ledgers.used layer (map part_of (listed blobs))
  layer_used layer l = ap (λ (a : Accounts). used_at a layer) n.bytes ∙ sums_of c (map part_of (listed blobs)) layer l

  pub few_in : (layer : ℕ) → length (filter (λ b. b.kept.meta.theme.layer == layer) blobs) < 2 ^ 32
  few_in layer = omega (arith, few (λ (b : KeptBlob). b.kept.meta.theme.layer == layer) blobs, n.few, n.valid.kept_limit_most)

  -- WHAT GOES

  -- where a scope's quota is exceeded it holds something
  pub some_goes : (scope : Scope) → exceeded ledger ≡ Some scope → IsVictim counts.policy scope (use_of counts) None → ⊥
  some_goes scope above none =
      let holds = holds_some c (map part_of (listed blobs)) scope (ap exceeded (sym n.bytes) ∙ above) in
      let one = one_in scope (listed blobs) (sym (any_map part_of (λ p. is_in scope p.layer) (listed blobs)) ∙ holds) in
      let f : true ≡ false = sym (n.keys one.0.meta ∙ one.2) ∙ ap is_some (none one.0.meta one.1) in
      cc

  -- what goes is kept
  pub goes_kept : (scope : Scope) (m : MetaKey) → IsVictim counts.policy scope (use_of counts) (Some m) → find (is_of m) (listed blobs) ≡ None → ⊥
  goes_kept scope m goes none = let f : true ≡ false = ap is_some (sym goes.1.held) ∙ n.keys m ∙ ap is_some none in cc
