-- Variables of one name, the innermost first.
use Rattle.std.proofs.Common.{◌≡◌, ◌<◌, ◌≤◌, ◌+◌, ◌-◌, ℕ, zero, suc, Bool, true, false, cond, List, [], ◌∷◌, ◌++◌, length, reverse, drop, find, slice_get, Option, None, Some, IsSome, is_some, if◌then◌else◌, refl, sym, ap, subst, ◌∙◌, arith}
use Rattle.std.specs.Option.{option_and_then}
use Rattle.std.specs.Str.{bytes_eq}
use Rattle.std.proofs.lemmas.Grind.{reverse_onto}
use Rattle.std.proofs.lemmas.List.{reverse-append, reverse-reverse, length-reverse, length-drop, drop-drop}
use Rattle.std.proofs.lemmas.Slice.Eq.{bytes_eq-Decides}
use Rattle.typing_symbols.specs.declared.variables.Hiding.{Hiding}
use Rattle.typing_symbols.specs.Hidden.{name_of, is_named, innermost, IsHiding}

-- ---- places

within : (y : List ℕ) (hs : List Hiding) (k : ℕ) → Some k ≡ innermost y hs → k < length hs
within y [] k e = let none : ⊥ = cc in absurd none
within y (h ∷ hs) k e = by (is_named y h) (within y hs k) e
  where
    by : (b : Bool) → (Some k ≡ innermost y hs → k < length hs) → Some k ≡ (if b then Some (length hs) else innermost y hs) → k < length (h ∷ hs)
    by true more t = let same : k ≡ length hs = cc in omega arith
    by false more t = let inside : k < length hs = more t in omega arith

get_last : {X : Type 0} (xs : List X) (x : X) → slice_get (xs ++ x ∷ []) (length xs) ≡ Some x
get_last [] x = refl
get_last (z ∷ xs) x = get_last xs x

get_before : {X : Type 0} (xs ys : List X) (k : ℕ) → k < length xs → slice_get (xs ++ ys) k ≡ slice_get xs k
get_before [] ys k h = absurd (omega arith)
get_before (x ∷ xs) ys zero h = refl
get_before (x ∷ xs) ys (suc k) h = get_before xs ys k (omega arith)

reversed : (h : Hiding) (hs : List Hiding) → reverse (h ∷ hs) ≡ reverse hs ++ h ∷ []
reversed h hs = reverse_onto hs h []

find_named : (y : List ℕ) (hs : List Hiding) → find (is_named y) hs ≡ option_and_then (slice_get (reverse hs)) (innermost y hs)
find_named y [] = refl
find_named y (h ∷ hs) = by (is_named y h) (find_named y hs) ∙ ap (λ l. option_and_then (slice_get l) (innermost y (h ∷ hs))) (sym (reversed h hs))
  where
    still : (o : Option ℕ) → o ≡ innermost y hs → option_and_then (slice_get (reverse hs)) o ≡ option_and_then (slice_get (reverse hs ++ h ∷ [])) o
    still None e = refl
    still (Some k) e = sym (get_before (reverse hs) (h ∷ []) k (let inside : k < length hs = within y hs k e in omega (arith, length-reverse hs)))

    by : (b : Bool) → find (is_named y) hs ≡ option_and_then (slice_get (reverse hs)) (innermost y hs)
        → cond b (Some h) (find (is_named y) hs) ≡ option_and_then (slice_get (reverse hs ++ h ∷ [])) (if b then Some (length hs) else innermost y hs)
    by true more = sym (ap (slice_get (reverse hs ++ h ∷ [])) (sym (length-reverse hs)) ∙ get_last (reverse hs) h)
    by false more = more ∙ still (innermost y hs) refl

-- the variables as the code holds them, the outermost first
pub find_inner : (y : List ℕ) (all : List Hiding) → find (is_named y) (reverse all) ≡ option_and_then (slice_get all) (innermost y (reverse all))
find_inner y all = find_named y (reverse all) ∙ ap (λ l. option_and_then (slice_get l) (innermost y (reverse all))) (reverse-reverse all)

pub inner_within : (y : List ℕ) (all : List Hiding) (k : ℕ) → Some k ≡ innermost y (reverse all) → k < length all
inner_within y all k e = let inside : k < length (reverse all) = within y (reverse all) k e in omega (arith, length-reverse all)

-- ---- one more

last_first : (all more : List Hiding) (h : Hiding) → more ≡ all ++ h ∷ [] → reverse more ≡ h ∷ reverse all
last_first all more h e = ap reverse e ∙ reverse-append all (h ∷ [])

module _ (all more : List Hiding) (h : Hiding) (is : more ≡ all ++ h ∷ []) where
  pub covered : (f g : List ℕ → Option ℕ) (place : ℕ) → place ≡ length all
      → ((y : List ℕ) → f y ≡ innermost y (reverse all)) → ((y : List ℕ) → g y ≡ cond (bytes_eq (name_of h) y) (Some place) (f y))
      → (y : List ℕ) → g y ≡ innermost y (reverse more)
  covered f g place count before after y =
      after y ∙ ap (λ o. cond (bytes_eq (name_of h) y) (Some place) o) (before y)
      ∙ ap (λ n. cond (bytes_eq (name_of h) y) (Some n) (innermost y (reverse all))) (count ∙ sym (length-reverse all))
      ∙ ap (innermost y) (sym (last_first all more h is))

  pub hiding_more : h.hides ≡ innermost (name_of h) (reverse all) → IsHiding (reverse all) → IsHiding (reverse more)
  hiding_more one others = let P : List Hiding → Type 0 = IsHiding in subst P (sym (last_first all more h is)) (one, others)

  -- ---- one less

  hiding_last : IsHiding (reverse more) → IsHiding (h ∷ reverse all)
  hiding_last c = let P : List Hiding → Type 0 = IsHiding in subst P (last_first all more h is) c

  pub hiding_less : IsHiding (reverse more) → IsHiding (reverse all)
  hiding_less c = (hiding_last c).1

  pub is_covered : (f : List ℕ → Option ℕ) → ((y : List ℕ) → f y ≡ innermost y (reverse more)) → IsSome (f (name_of h))
  is_covered f before =
      let own : bytes_eq (name_of h) (name_of h) ≡ true = (bytes_eq-Decides (name_of h) (name_of h)).1 refl in
      ap is_some (before (name_of h) ∙ ap (innermost (name_of h)) (last_first all more h is) ∙ ap (λ b. if b then Some (length (reverse all)) else innermost (name_of h) (reverse all)) own)

  pub uncovered : (f g : List ℕ → Option ℕ) → IsHiding (reverse more)
      → ((y : List ℕ) → f y ≡ innermost y (reverse more)) → ((y : List ℕ) → g y ≡ (if bytes_eq (name_of h) y then h.hides else f y))
      → (y : List ℕ) → g y ≡ innermost y (reverse all)
  uncovered f g hiding before after y =
      after y ∙ ap (λ o. if bytes_eq (name_of h) y then h.hides else o) (before y ∙ ap (innermost y) (last_first all more h is))
      ∙ by (bytes_eq (name_of h) y) (λ e. (hiding_last hiding).0 ∙ ap (λ (b : List ℕ). innermost b (reverse all)) ((bytes_eq-Decides (name_of h) y).0 e))
    where
      by : (b : Bool) → (b ≡ true → h.hides ≡ innermost y (reverse all))
          → (if b then h.hides else (if b then Some (length (reverse all)) else innermost y (reverse all))) ≡ innermost y (reverse all)
      by true own = own refl
      by false own = refl

-- ---- fewer

pub fewer : {X : Type 0} (all now next : List X) (count : ℕ) → count < length now → length now ≤ length all
    → now ≡ drop (length all - length now) all → next ≡ drop 1 now
    → (count ≤ length next) × (length next ≤ length all) × (next ≡ drop (length all - length next) all)
fewer all now next count many few so_far less =
    let size : length next ≡ length now - 1 = ap length less ∙ length-drop 1 now in
    let amount : length all - length now + 1 ≡ length all - length next = omega arith in
    (omega arith, omega arith, less ∙ ap (drop 1) so_far ∙ drop-drop 1 (length all - length now) all ∙ ap (λ n. drop n all) amount)
