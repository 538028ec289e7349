-- The same of a text that is a number and nothing else.
use Rattle.std.proofs.Common.{◌≡◌, ℕ, ◌^◌, ◌<◌, ◌≤◌, ℤ, eqb, List, [], length, Option, Some, None, sym, ap, ◌∙◌}
use Rattle.std.proofs.lemmas.Bool.{eqb-true}
use Rattle.std.proofs.lemmas.List.{nil_from_length, append-nil}
use Rattle.std.proofs.lemmas.Option.{cond_some}
use Rattle.std.specs.Prelude.{decimal, FitsSigned}
use Rattle.std.specs.Int.{w128}
use Rattle.std.specs.Fmt.{signed_decimal}
use Rattle.decimal_text.specs.Reading.{natural_at, number_at, whole, natural_of, number_of}
use Rattle.decimal_text.proofs.Words.{natural_takes, natural_again}
use Rattle.decimal_text.proofs.Numbers.{number_takes, number_again}

whole_is : {A : Type 0} (o : Option (A × List ℕ)) (x : A) → whole o ≡ Some x → o ≡ Some (x, [])
whole_is None x e = absurd cc
whole_is (Some y) x e =
    let g = cond_some (eqb (length y.1) 0) y.0 x e in
    ap (λ (a : _). Some (a, y.1)) g.1 ∙ ap (λ (r : List ℕ). Some (x, r)) (nil_from_length y.1 (eqb-true _ _ g.0))

pub natural_of_takes : (most : ℕ) (text : List ℕ) (n : ℕ) → most < 10 ^ 63 → natural_of most text ≡ Some n → (text ≡ decimal n) × (n ≤ most)
natural_of_takes most text n wide e =
    let t = natural_takes most text (n, []) wide (whole_is (natural_at most text) n e) in
    (t.0 ∙ append-nil (decimal n), t.1)

pub natural_of_again : (most n : ℕ) → most < 10 ^ 63 → n ≤ most → natural_of most (decimal n) ≡ Some n
natural_of_again most n wide le = ap (λ (t : List ℕ). natural_of most t) (sym (append-nil (decimal n))) ∙ ap whole (natural_again most n [] wide le tt)

pub number_of_takes : (text : List ℕ) (z : ℤ) → number_of text ≡ Some z → (text ≡ signed_decimal z) × FitsSigned w128 z
number_of_takes text z e =
    let t = number_takes text (z, []) (whole_is (number_at text) z e) in
    (t.0 ∙ append-nil (signed_decimal z), t.1)

pub number_of_again : (z : ℤ) → FitsSigned w128 z → number_of (signed_decimal z) ≡ Some z
number_of_again z fits = ap number_of (sym (append-nil (signed_decimal z))) ∙ ap whole (number_again z [] fits tt)
