-- Expressions fail only where their labels stand.
use Rattle.std.proofs.Common.{◌≡◌, ℕ, suc, ◌+◌, Bool, true, false, cond, not, refl, ap, ℤ, pos, ◌-ℤ◌, List, [], ◌∷◌, ◌++◌, length, Option, Some, None}
use Rattle.object_types.specs.declared.values.Value.{Value}
use Rattle.object_types.specs.declared.values.Value.TheVariants.{Int}
use Rattle.int_ranges.specs.declared.ctype.CType.{CType}
use Rattle.int_ranges.specs.Ranges.{in_range}
use Rattle.method.specs.declared.program.CheckKind.{CheckKind}
use Rattle.method.specs.declared.program.CheckKind.TheVariants.{Divide, Range, Read}
use Rattle.method.specs.declared.program.Operator.{Operator}
use Rattle.method.specs.declared.program.Expr.{Expr}
use Rattle.method.specs.declared.program.Expr.TheVariants.{Number, Null, Variable, Field', Not', Negate', Arithmetic', Compare', And', Or', Choose', Convert'}
use Rattle.method.specs.declared.program.Program.{Program}
use Rattle.object_types.specs.Values.{int, referent, truth, is_zero_int}
use Rattle.object_types.specs.Heap.{Heap}
use Rattle.method.specs.SpecValue.{compute}
use Rattle.method.specs.Expressions.{Outcome, Gives, after, Spot, check, checks, divides, checked_result, arithmetic, converted, readable, eval, eval_all}
use Rattle.method.specs.Actions.{convert_to}
use Rattle.method.specs.Labels.{kinds, all_kinds, conversion_kinds}
use Rattle.machine_laws.proofs.Outcomes.{OnGave, after_gave, after_any}
use Rattle.safety_law.proofs.Faults.{Table, KindsAt, Within, kinds_left, kinds_right, kinds_three, gives_within, after_within, if_within, check_within}
use Rattle.safety_law.proofs.Sizes.{kinds_size}

module _ (T : Table) (at_ : Spot) where
  abbrev At : List CheckKind → ℕ → Type 0
  At ks n = KindsAt T at_.line ks n

  arithmetic_within : (op : Operator) (c : CType) (a b : ℤ) (n : ℕ) → At (cond (divides op) (Divide ∷ Range ∷ []) (Range ∷ [])) n → Within T (arithmetic at_ op c a b n)
  arithmetic_within op c a b n s = by (divides op) s
    where
      by : (d : Bool) → At (cond d (Divide ∷ Range ∷ []) (Range ∷ [])) n →
          Within T (cond d (check at_ (not (is_zero_int b)) n Divide (check at_ (in_range c (checked_result op a b)) (n + 1) Range (Gives (Int (compute op a b)))))
          (check at_ (in_range c (checked_result op a b)) n Range (Gives (Int (compute op a b)))))
      by true s = check_within T at_ (not (is_zero_int b)) n Divide _ refl s.0 (check_within T at_ (in_range c (checked_result op a b)) (n + 1) Range _ refl s.1.0 (gives_within T _))
      by false s = check_within T at_ (in_range c (checked_result op a b)) n Range _ refl s.0 (gives_within T _)

  pub converted_within : (c : CType) (v : Value) (n : ℕ) → At (Range ∷ []) n → Within T (converted at_ c v n)
  converted_within c v n s = check_within T at_ (in_range c (int v)) n Range _ refl s.0 (gives_within T _)

  pub convert_within : (c : Option CType) (v : Value) (n : ℕ) → At (conversion_kinds c) n → Within T (convert_to at_ c v n)
  convert_within None v n s = gives_within T v
  convert_within (Some c) v n s = converted_within c v n s

  -- the kinds of a part, and of what stands behind it
  pub first_kinds : (e : Expr) (ks : List CheckKind) (n : ℕ) → At (kinds e ++ ks) n → At (kinds e) n
  first_kinds e ks n s = kinds_left T at_.line (kinds e) ks n s

  pub last_kinds : (e : Expr) (ks : List CheckKind) (n : ℕ) → At (kinds e ++ ks) n → At ks (n + checks e)
  last_kinds e ks n s = kinds_right T at_.line (kinds e) ks n (checks e) (kinds_size e) s

  module _ (p : Program) (h : Heap) (l : List Value) where
    abbrev ev : Expr → ℕ → Outcome Value
    ev e n = eval p at_ h l e n

    pub eval_within : (e : Expr) (n : ℕ) → At (kinds e) n → Within T (eval p at_ h l e n)
    eval_within (Number z) n s = gives_within T _
    eval_within Null n s = gives_within T _
    eval_within (Variable i) n s = gives_within T _
    eval_within (Field' q e f) n s = let t = last_kinds e (Read ∷ []) n s in after_within T (ev e n) _ (eval_within e n (first_kinds e (Read ∷ []) n s))
        (λ v. check_within T at_ (readable p at_ h (referent v) f) (n + checks e) Read _ refl t.0 (gives_within T _))
    eval_within (Not' q e) n s = search (after_within T, eval_within e n s, gives_within T)
    eval_within (Negate' q e c) n s = let t = last_kinds e (Range ∷ []) n s in after_within T (ev e n) _ (eval_within e n (first_kinds e (Range ∷ []) n s))
        (λ v. check_within T at_ (in_range c (pos 0 -ℤ int v)) (n + checks e) Range _ refl t.0 (gives_within T _))
    eval_within (Arithmetic' op q a r b c) n s =
        let t = kinds_three T at_.line (kinds a) (kinds b) (cond (divides op) (Divide ∷ Range ∷ []) (Range ∷ [])) n (checks a) (checks b) (kinds_size a) (kinds_size b) s in
        after_within T (ev a n) _ (eval_within a n t.0) (λ v. after_within T (ev b (n + checks a)) _ (eval_within b (n + checks a) t.1)
        (λ w. arithmetic_within op c (int v) (int w) (n + checks a + checks b) t.2))
    eval_within (Compare' k q a r b) n s =
        let x = eval_within a n (first_kinds a (kinds b) n s) in
        let y = eval_within b (n + checks a) (last_kinds a (kinds b) n s) in
        search (after_within T, x, y, gives_within T)
    eval_within (And' q a r b) n s =
        let x = eval_within a n (first_kinds a (kinds b) n s) in
        let y = eval_within b (n + checks a) (last_kinds a (kinds b) n s) in
        after_within T (ev a n) _ x (λ v. if_within T (truth v) _ _ (after_within T (ev b (n + checks a)) _ y (λ w. gives_within T _)) (gives_within T _))
    eval_within (Or' q a r b) n s =
        let x = eval_within a n (first_kinds a (kinds b) n s) in
        let y = eval_within b (n + checks a) (last_kinds a (kinds b) n s) in
        after_within T (ev a n) _ x (λ v. if_within T (truth v) _ _ (gives_within T _) (after_within T (ev b (n + checks a)) _ y (λ w. gives_within T _)))
    eval_within (Choose' q a r b t c) n s =
        let u = kinds_three T at_.line (kinds a) (kinds b) (kinds c) n (checks a) (checks b) (kinds_size a) (kinds_size b) s in
        let x = eval_within a n u.0 in
        let y = eval_within b (n + checks a) u.1 in
        let z = eval_within c (n + checks a + checks b) u.2 in
        after_within T (ev a n) _ x (λ v. if_within T (truth v) _ _ y z)
    eval_within (Convert' q e c) n s =
        let t = last_kinds e (Range ∷ []) n s in
        after_within T (ev e n) _ (eval_within e n (first_kinds e (Range ∷ []) n s)) (λ v. converted_within c v (n + checks e) t)

    pub all_within : (es : List Expr) (n : ℕ) → At (all_kinds es) n → Within T (eval_all p at_ h l es n)
    all_within [] n s = gives_within T _
    all_within (e ∷ es) n s =
        let x = eval_within e n (first_kinds e (all_kinds es) n s) in
        let y = all_within es (n + checks e) (last_kinds e (all_kinds es) n s) in
        search (after_within T, x, y, gives_within T)

  pub all_size : (p : Program) (h : Heap) (l : List Value) (es : List Expr) (n : ℕ) → OnGave (eval_all p at_ h l es n) (λ vs. length vs ≡ length es)
  all_size p h l [] n = refl
  all_size p h l (e ∷ es) n =
      after_any (eval p at_ h l e n) (λ v. after (eval_all p at_ h l es (n + checks e)) (λ vs. Gives (v ∷ vs))) (λ vs. length vs ≡ length (e ∷ es)) (λ v.
      after_gave (eval_all p at_ h l es (n + checks e)) (λ vs. Gives (v ∷ vs)) (λ vs. length vs ≡ length es) (λ vs. length vs ≡ length (e ∷ es)) (all_size p h l es (n + checks e)) (λ vs i. ap suc i))
