-- The bodies of posts, numbered one after the other.
use Rattle.std.proofs.Common.{◌≡◌, ◌≢◌, ℕ, suc, ◌+◌, List, [], ◌∷◌, ◌++◌, length, refl, sym, ap, ◌∙◌, arith}
use mathlib.Core.List.{append_assoc}
use Rattle.std.specs.List.{AllByRecursion}
use Rattle.catalog.specs.declared.catalogue.Catalogue.{Catalogue}
use Rattle.truncation_list.specs.declared.cover.Cover.{Cover}
use Rattle.outbox.specs.Files.{ArePosts, IsBadBehind, IsPostable, bodies_from, bodies_of, post_body}

-- one post more
bodies_on : (n : ℕ) (posts : List Cover) (cover : Cover) → bodies_from n (posts ++ cover ∷ []) ≡ bodies_from n posts ++ post_body (n + length posts + 1) cover ∷ []
bodies_on n [] cover = let one : n + 1 ≡ n + 0 + 1 = omega arith in ap (λ (m : ℕ). post_body m cover ∷ []) one
bodies_on n (p ∷ posts) cover =
    let number : n + 1 + length posts + 1 ≡ n + suc (length posts) + 1 = omega arith in
    ap (λ (l : List (List ℕ)). post_body (n + 1) p ∷ l) (bodies_on (n + 1) posts cover ∙ ap (λ (m : ℕ). bodies_from (n + 1) posts ++ post_body m cover ∷ []) number)

bodies_count : (n : ℕ) (posts : List Cover) → length (bodies_from n posts) ≡ length posts
bodies_count n [] = refl
bodies_count n (p ∷ posts) = ap suc (bodies_count (n + 1) posts)

pub all_on : {A : Type 0} (P : A → Type 0) (xs : List A) (x : A) → AllByRecursion P xs → P x → AllByRecursion P (xs ++ x ∷ [])
all_on P [] x all one = (one, tt)
all_on P (y ∷ ys) x all one = (all.0, all_on P ys x all.1 one)

module _ (c : Catalogue) (bodies : List (List ℕ)) (posts : List Cover) (are : ArePosts c bodies posts) where
  pub posts_count : length bodies ≡ length posts
  posts_count = ap length are.bodies_are ∙ bodies_count 0 posts

  -- the body of the next one makes one more
  pub posts_on : (cover : Cover) (body : List ℕ) (slot : ℕ) → slot ≡ length bodies → IsPostable c cover → body ≡ post_body (slot + 1) cover → ArePosts c (bodies ++ body ∷ []) (posts ++ cover ∷ [])
  posts_on cover body slot at one is =
      let number : slot + 1 ≡ 0 + length posts + 1 = omega (arith, at, posts_count) in
      record {
        bodies_are = (λ k. are.bodies_are k ++ (is ∙ ap (λ (m : ℕ). post_body m cover) number) k ∷ []) ∙ sym (bodies_on 0 posts cover);
        postable = all_on (IsPostable c) posts cover are.postable one;
      }

  -- one that is no next post's is the first bad one
  pub bad_there : (body : List ℕ) (slot : ℕ) → slot ≡ length bodies → ((cover : Cover) → IsPostable c cover → body ≢ post_body (slot + 1) cover) → IsBadBehind c (bodies ++ body ∷ []) slot
  bad_there body slot at bad =
      record { posts = posts; postable = are.postable; bad = body; others = []; bodies_are = ap (λ (l : List (List ℕ)). l ++ body ∷ []) are.bodies_are; slot_is = at ∙ posts_count; is_bad = bad }

-- and stays it
pub bad_still : (c : Catalogue) (bodies : List (List ℕ)) (slot : ℕ) (body : List ℕ) → IsBadBehind c bodies slot → IsBadBehind c (bodies ++ body ∷ []) slot
bad_still c bodies slot body b =
    record {
      posts = b.posts;
      postable = b.postable;
      bad = b.bad;
      others = b.others ++ body ∷ [];
      bodies_are = ap (λ (l : List (List ℕ)). l ++ body ∷ []) b.bodies_are ∙ append_assoc (bodies_of b.posts) (b.bad ∷ b.others) (body ∷ []);
      slot_is = b.slot_is;
      is_bad = b.is_bad;
    }
