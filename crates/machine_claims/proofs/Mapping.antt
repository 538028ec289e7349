-- How a loop makes a list of what a function gives for each of another.
use Rattle.std.proofs.Common.{◌≡◌, ℕ, ◌+◌, ◌<◌, ◌≤◌, List, [], ◌∷◌, ◌++◌, length, get_or, drop, map, refl, sym, ap, subst, ◌∙◌, add-one, drop-cons, append-nil, append_assoc, Result, Ok, Err}
use Rattle.std.specs.Prelude.{IfOk, OnOk, MatchResult, IsErrAnd}
use Rattle.std.proofs.lemmas.List.{drop_all}

module _ {X Y : Type 0} (f : X → Y) (xs : List X) (i : ℕ) (ys : List Y) (far : ys ++ map f (drop i xs) ≡ map f xs) where
  pub map_next : (d : X) (y : Y) → i < length xs → y ≡ f (get_or xs i d) → (ys ++ y ∷ []) ++ map f (drop (i + 1) xs) ≡ map f xs
  map_next d y lt is =
      append_assoc ys (y ∷ []) (map f (drop (i + 1) xs))
      ∙ (λ j. ys ++ (is j ∷ map f (drop (add-one i j) xs)))
      ∙ ap (λ zs. ys ++ map f zs) (sym (drop-cons xs i d lt))
      ∙ far

  pub map_end : length xs ≤ i → ys ≡ map f xs
  map_end ge = sym (append-nil ys) ∙ ap (λ zs. ys ++ map f zs) (sym (drop_all i xs ge)) ∙ far

pub map_both : {X Y Z : Type 0} (f : X → Y) (g : Y → Z) (xs : List X) → map (λ x. g (f x)) xs ≡ map g (map f xs)
map_both f g [] = refl
map_both f g (x ∷ xs) = ap (λ zs. g (f x) ∷ zs) (map_both f g xs)

-- another error for the same answer
pub ok_kept : {T E D : Type 0} (P Q : T → Type 0) (post : E → D → Type 0) → ((x : T) → P x → Q x) → (r : Result T E) (s : Result T D) → MatchResult r (λ x. s ≡ Ok x) (λ e. IsErrAnd s (post e)) → IfOk r P → IfOk s Q
ok_kept P Q post f (Ok x) s m h = subst (λ z. IfOk z Q) (sym m) (f x h)
ok_kept P Q post f (Err e) (Ok x) m h = absurd m
ok_kept P Q post f (Err e) (Err d) m h = tt

pub on_any : {T E X : Type 0} (r : Result T E) → X → OnOk r X
on_any (Ok t) x = x
on_any (Err e) x = tt
