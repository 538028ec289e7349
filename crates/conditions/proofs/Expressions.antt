-- Expressions of code: what they come to, and their tests, beside their terms and checks.
use Rattle.std.proofs.Common.{◌≡◌, ℕ, Bool, true, false, not, ◌&&◌, ◌||◌, if◌then◌else◌, List, [], ◌∷◌, ◌++◌, map, refl, ap, sym, ◌∙◌, subst, true≢false}
use Rattle.std.specs.Prelude.{ℤ, pos, ◌-ℤ◌}
use Rattle.object_types.specs.declared.references.Ref.{Ref}
use Rattle.object_types.specs.declared.values.Value.{Value}
use Rattle.object_types.specs.declared.values.Value.TheVariants.{Int, Ref as Refers}
use Rattle.object_types.specs.References.{null, same_ref}
use Rattle.object_types.specs.Values.{int, referent, truth, says, same_value, is_zero_int, number_of}
use Rattle.object_types.specs.Heap.{Heap}
use Rattle.int_ranges.specs.declared.ctype.CType.{CType}
use Rattle.int_ranges.specs.Ranges.{in_range}
use Rattle.method.specs.declared.program.Operator.{Operator}
use Rattle.method.specs.declared.program.Operator.TheVariants as o
use Rattle.method.specs.declared.program.Comparison.{Comparison}
use Rattle.method.specs.declared.program.Expr.{Expr}
use Rattle.method.specs.declared.program.Expr.TheVariants as e
use Rattle.method.specs.declared.program.Program.{Program}
use Rattle.method.specs.SpecValue as v
use Rattle.method.specs.Tables.{local, read}
use Rattle.method.specs.Expressions as m
use Rattle.method.specs.Expressions.{Spot as MachineSpot, Outcome, End, Gave, Failed, divides}
use Rattle.terms.specs.Formula.{Formula, Node, Stop}
use Rattle.terms.specs.declared.term.Kind.TheVariants as k
use Rattle.method.proofs.Global.{same_int_is}
use Rattle.conditions.specs.Formulas.{nat, not', and', or', imp, eq, ite}
use Rattle.conditions.specs.Formulas as f
use Rattle.conditions.specs.Symbolic.{Symbolic, Truth, Number, Reference, term, test, choose, symbolic_of_type}
use Rattle.conditions.specs.Symbolic as w
use Rattle.conditions.specs.Paths.{Done, Execution, Gives, after, check, guard}
use Rattle.conditions.specs.Code as code
use Rattle.conditions.specs.Ways.{StandsFor}
use Rattle.conditions.proofs.Same.{both_true}
use Rattle.conditions.proofs.Tests.{nothing_behind, own_tests, IsRef, SameSort, plain, tests, Sorted}
use Rattle.conditions.proofs.PathTests.{HasTests, has_tests_done, has_tests_check, has_tests_sequence, has_tests_guarded}
use Rattle.conditions.specs.Annotations.{symbolic_at}
use Rattle.conditions.specs.Code.{Spot, State}

-- each variable of an expression is known, and each field that it reads is in the table
abbrev pub Uses : (ℕ → Type 0) → (ℕ → Type 0) → Expr → Type 0
Uses Known Table (e.Number z) = Unit {0}
Uses Known Table e.Null = Unit {0}
Uses Known Table (e.Variable i) = Known i
Uses Known Table (e.Field' q x g) = Uses Known Table x × Table g
Uses Known Table (e.Not' q x) = Uses Known Table x
Uses Known Table (e.Negate' q x c) = Uses Known Table x
Uses Known Table (e.Arithmetic' op q x r y c) = Uses Known Table x × Uses Known Table y
Uses Known Table (e.Compare' op q x r y) = Uses Known Table x × Uses Known Table y
Uses Known Table (e.And' q x r y) = Uses Known Table x × Uses Known Table y
Uses Known Table (e.Or' q x r y) = Uses Known Table x × Uses Known Table y
Uses Known Table (e.Choose' q x r y t z) = Uses Known Table x × Uses Known Table y × Uses Known Table z
Uses Known Table (e.Convert' q x c) = Uses Known Table x

-- The meaning of terms is given by what this proof uses of it: a relation of a formula and its truth value, and of a term and its value.
module _ (Is : Formula → Bool → Type 0) (Has : Formula → Value → Type 0)
    (is_not : (x : Formula) (b : Bool) → Is x b → Is (not' x) (not b))
    (is_and : (x y : Formula) (a b : Bool) → Is x a → Is y b → Is (and' x y) (a && b))
    (is_or : (x y : Formula) (a b : Bool) → Is x a → Is y b → Is (or' x y) (a || b))
    (is_imp : (x y : Formula) (a b : Bool) → Is x a → Is y b → Is (imp x y) (not a || b))
    (is_eq : (x y : Formula) (a b : Value) → Has x a → Has y b → Is (eq x y) (same_value a b))
    (is_compare : (op : Comparison) (x y : Formula) (a b : Value) → Has x a → Has y b → Is (w.compare op x y) (v.compare op a b))
    (has_int : (z : ℤ) → Has (f.int z) (Int z))
    (has_null : Has f.null (Refers null))
    (has_ite : (b x y : Formula) (t : Bool) (a c : Value) → Is b t → Has x a → Has y c → Has (ite b x y) (if t then a else c))
    (has_compute : (op : Operator) (x y : Formula) (a b : Value) → Has x a → Has y b → Has (w.compute op x y) (Int (v.compute op (int a) (int b))))
    (only_int : (n z : ℤ) → Has (f.int n) (Int z) → z ≡ n)
    (is_in_range : (c : CType) (x : Formula) (a : Value) → Has x a → Is (f.all_of (w.bounds c x)) (in_range c (int a)))
  where
    abbrev Stands : Symbolic → Value → Type 0
    Stands = StandsFor Is Has

    has_says : (x : Formula) (b : Bool) → Is x b → Has (ite x (nat 1) (nat 0)) (says b)
    has_says x true i = has_ite x (nat 1) (nat 0) true (Int (pos 1)) (Int (pos 0)) i (has_int (pos 1)) (has_int (pos 0))
    has_says x false i = has_ite x (nat 1) (nat 0) false (Int (pos 1)) (Int (pos 0)) i (has_int (pos 1)) (has_int (pos 0))

    pub stands_term : (x : Symbolic) (a : Value) → Stands x a → Has (term x) a
    stands_term (Truth x) a s = subst (λ (y : Value). Has (ite x (nat 1) (nat 0)) y) (sym s.2) (has_says x s.0 s.1)
    stands_term (Number x) a s = subst (λ (y : Value). Has x y) (sym s.2) s.1
    stands_term (Reference x) a s = subst (λ (y : Value). Has x y) (sym s.2) s.1

    truth_says : (b : Bool) → b ≡ truth (says b)
    truth_says true = refl
    truth_says false = refl

    pub stands_test : (x : Symbolic) (a : Value) → Stands x a → Is (test x) (truth a)
    unfolding same_ref
    stands_test (Truth x) a s = subst (λ (t : Bool). Is x t) (truth_says s.0 ∙ ap truth (sym s.2)) s.1
    stands_test (Number x) a s = subst (λ (y : Value). Is (not' (eq x (nat 0))) (truth y)) (sym s.2) (is_not (eq x (nat 0)) (same_value (Int s.0) (Int (pos 0))) (is_eq x (nat 0) (Int s.0) (Int (pos 0)) s.1 (has_int (pos 0))))
    stands_test (Reference x) a s = subst (λ (y : Value). Is (not' (eq x f.null)) (truth y)) (sym s.2) (is_not (eq x f.null) (same_value (Refers s.0) (Refers null)) (is_eq x f.null (Refers s.0) (Refers null) s.1 has_null))

    -- A choice.

    two_refs : (b x y : Formula) (t : Bool) (r q : Ref) → Is b t → Has x (Refers r) → Has y (Refers q) → Stands (Reference (ite b x y)) (if t then Refers r else Refers q)
    two_refs b x y true r q i hx hy = (r, has_ite b x y true (Refers r) (Refers q) i hx hy, refl)
    two_refs b x y false r q i hx hy = (q, has_ite b x y false (Refers r) (Refers q) i hx hy, refl)

    two_ints : (b x y : Formula) (t : Bool) (z n : ℤ) → Is b t → Has x (Int z) → Has y (Int n) → Stands (Number (ite b x y)) (if t then Int z else Int n)
    two_ints b x y true z n i hx hy = (z, has_ite b x y true (Int z) (Int n) i hx hy, refl)
    two_ints b x y false z n i hx hy = (n, has_ite b x y false (Int z) (Int n) i hx hy, refl)

    one_or_none : (b : Formula) (t : Bool) → Is b t → Stands (Truth b) (if t then Int (pos 1) else Int (pos 0))
    one_or_none b true i = (true, i, refl)
    one_or_none b false i = (false, i, refl)

    ref_choice : (b x : Formula) (y : Symbolic) (t : Bool) (r : Ref) (c : Value) → Is b t → Has x (Refers r) → Stands y c → SameSort (Refers r) c → Stands (Reference (ite b x (term y))) (if t then Refers r else c)
    ref_choice b x y t r (Int n) i hx s same = absurd same
    ref_choice b x y t r (Refers q) i hx s same = two_refs b x (term y) t r q i hx (stands_term y (Refers q) s)

    int_choice : (b x : Formula) (y : Symbolic) (t : Bool) (z : ℤ) (c : Value) → Is b t → Has x (Int z) → Stands y c → SameSort (Int z) c → Stands (Number (ite b x (term y))) (if t then Int z else c)
    int_choice b x y t z (Int n) i hx s same = two_ints b x (term y) t z n i hx (stands_term y (Int n) s)
    int_choice b x y t z (Refers q) i hx s same = absurd same

    literal : (n : ℤ) (x : Formula) (z : ℤ) → w.is_int n (Number x) ≡ true → Has x (Int z) → z ≡ n
    literal n (Node k.Int j Stop) z h has = only_int j z has ∙ sym (same_int_is n j h)
    literal n (Node kind j fs) z h has = absurd (true≢false (sym h))

    is_literal : (n : ℤ) (y : Symbolic) (c : Value) → w.is_int n y ≡ true → Stands y c → c ≡ Int n
    is_literal n (Truth y) c h s = absurd (true≢false (sym h))
    is_literal n (Number y) c h s = s.2 ∙ ap Int (literal n y s.0 h s.1)
    is_literal n (Reference y) c h s = absurd (true≢false (sym h))

    number_choice : (flag : Bool) (b x : Formula) (y : Symbolic) (t : Bool) (z : ℤ) (c : Value) → flag ≡ (w.is_int (pos 1) (Number x) && w.is_int (pos 0) y) → Is b t → Has x (Int z) → Stands y c → SameSort (Int z) c → Stands (if flag then Truth b else Number (ite b x (term y))) (if t then Int z else c)
    number_choice true b x y t z c same i hx s sort =
        let ones = both_true (w.is_int (pos 1) (Number x)) (w.is_int (pos 0) y) (sym same) in
        subst (λ (u : Value). Stands (Truth b) (if t then u else c)) (ap Int (sym (literal (pos 1) x z ones.0 hx))) (subst (λ (u : Value). Stands (Truth b) (if t then Int (pos 1) else u)) (sym (is_literal (pos 0) y c ones.1 s)) (one_or_none b t i))
    number_choice false b x y t z c same i hx s sort = int_choice b x y t z c i hx s sort

    pub stands_choose : (b : Formula) (x y : Symbolic) (t : Bool) (u c : Value) → Is b t → Stands x u → Stands y c → SameSort u c → Stands (choose b x y) (if t then u else c)
    stands_choose b (Truth x) y t u c i sx sy same =
        subst (λ (n : Value). Stands (choose b (Truth x) y) (if t then n else c)) (sym sx.2) (int_choice b (term (Truth x)) y t (number_of sx.0) c i (has_says x sx.0 sx.1) sy (subst (λ (n : Value). SameSort n c) sx.2 same))
    stands_choose b (Number x) y t u c i sx sy same =
        subst (λ (n : Value). Stands (choose b (Number x) y) (if t then n else c)) (sym sx.2) (number_choice (w.is_int (pos 1) (Number x) && w.is_int (pos 0) y) b x y t sx.0 c refl i sx.1 sy (subst (λ (n : Value). SameSort n c) sx.2 same))
    stands_choose b (Reference x) y t u c i sx sy same =
        subst (λ (n : Value). Stands (choose b (Reference x) y) (if t then n else c)) (sym sx.2) (ref_choice b x y t sx.0 c i sx.1 sy (subst (λ (n : Value). SameSort n c) sx.2 same))

    -- a path of checks with these tests, and what it gives with this value
    pub record Evaluates (t : Execution Symbolic) (bs : List Bool) (a : Value) : Type 0 where
      pub told : HasTests Is t.path bs
      pub value : Stands t.gives a

    tells_after : (t : Execution Symbolic) (g : Symbolic → Execution Symbolic) (bs cs : List Bool) (a b : Value) → Evaluates t bs a → Evaluates (g t.gives) cs b → Evaluates (after t g) (bs ++ cs) b
    tells_after t g bs cs a b x y = record { told = has_tests_sequence Is t.path (g t.gives).path bs cs x.told y.told; value = y.value }

    tells_under : (t : Execution Symbolic) (g : Formula) (b : Bool) (bs : List Bool) (a : Value) → Is g b → Evaluates t bs a → Evaluates (guard g t) (map (λ u. not b || u) bs) a
    tells_under t g b bs a h x = record { told = has_tests_guarded Is is_imp g b t.path bs h x.told; value = x.value }

    -- what is given without checks
    tells_value : (x : Symbolic) (a : Value) → Stands x a → Evaluates (Gives x) [] a
    tells_value x a s = record { told = has_tests_done Is; value = s }

    tells_check : (x : Formula) (b : Bool) (w : Symbolic) (a : Value) → Is x b → Stands w a → Evaluates (check x (Gives w)) (b ∷ []) a
    tells_check x b w a h s = record { told = has_tests_check Is x b Done [] h (has_tests_done Is); value = s }

    tells_then : (t : Execution Symbolic) (g : Symbolic → Symbolic) (bs : List Bool) (a b : Value) → Evaluates t bs a → Stands (g t.gives) b → Evaluates (after t (λ y. Gives (g y))) bs b
    tells_then t g bs a b x s = subst (λ (cs : List Bool). Evaluates (after t (λ y. Gives (g y))) cs b) (nothing_behind bs) (tells_after t (λ y. Gives (g y)) bs [] a b x (tells_value (g t.gives) b s))

    -- An operator.

    tells_plain : (p : Program) (a : Spot) (op : Operator) (c : CType) (x y : Formula) (u : Value) (z : ℤ) → Has x u → Has y (Int z) → Evaluates (check (f.all_of (w.bounds c (w.compute op x y))) (Gives (Number (w.compute op x y)))) (in_range c (v.compute op (int u) z) ∷ []) (Int (v.compute op (int u) z))
    tells_plain p a op c x y u z hx hy =
        let k : Has (w.compute op x y) (Int (v.compute op (int u) z)) = has_compute op x y u (Int z) hx hy in
        tells_check (f.all_of (w.bounds c (w.compute op x y))) (in_range c (v.compute op (int u) z)) (Number (w.compute op x y)) (Int (v.compute op (int u) z)) (is_in_range c (w.compute op x y) (Int (v.compute op (int u) z)) k) (v.compute op (int u) z, k, refl)

    tells_divided : (op : Operator) (c : CType) (x y : Formula) (u : Value) (z : ℤ) → Has x u → Has y (Int z) → Evaluates (check (not' (eq y (nat 0))) (check (f.all_of (w.bounds c (w.compute o.Over x y))) (Gives (Number (w.compute op x y))))) (not (is_zero_int z) ∷ in_range c (v.compute o.Over (int u) z) ∷ []) (Int (v.compute op (int u) z))
    tells_divided op c x y u z hx hy =
        let k : Has (w.compute op x y) (Int (v.compute op (int u) z)) = has_compute op x y u (Int z) hx hy in
        let d : Has (w.compute o.Over x y) (Int (v.compute o.Over (int u) z)) = has_compute o.Over x y u (Int z) hx hy in
        record { told = record { only_checks = tt; all = (is_not (eq y (nat 0)) (is_zero_int z) (is_eq y (nat 0) (Int z) (Int (pos 0)) hy (has_int (pos 0))), (is_in_range c (w.compute o.Over x y) (Int (v.compute o.Over (int u) z)) d, tt)) }; value = (v.compute op (int u) z, k, refl) }

    tells_operator : (p : Program) (a : Spot) (op : Operator) (c : CType) (x y : Formula) (u : Value) (z : ℤ) → Has x u → Has y (Int z) → Evaluates (code.arithmetic p a op c x y) (own_tests op c (int u) z) (Int (v.compute op (int u) z))
    tells_operator p a o.Plus c x y u z hx hy = tells_plain p a o.Plus c x y u z hx hy
    tells_operator p a o.Minus c x y u z hx hy = tells_plain p a o.Minus c x y u z hx hy
    tells_operator p a o.Times c x y u z hx hy = tells_plain p a o.Times c x y u z hx hy
    tells_operator p a o.Over c x y u z hx hy = tells_divided o.Over c x y u z hx hy
    tells_operator p a o.Modulo c x y u z hx hy = tells_divided o.Modulo c x y u z hx hy

    module _ (p : Program) (at_ : MachineSpot) (h : Heap) (l : List Value) (a : Spot) (st : State)
        (Known Table : ℕ → Type 0)
        (locals : (i : ℕ) → Known i → Stands (symbolic_at st.locals i) (local l i))
        (field : (x : Symbolic) (o : Value) (g : ℕ) → Table g → IsRef o → Stands x o → Evaluates (code.field_read p a st (term x) g) (m.readable p at_ h (referent o) g ∷ []) (read p h (referent o) g))
      where
        abbrev T : Expr → Execution Symbolic
        T = code.code p a st

        abbrev B : Expr → List Bool
        B = tests p at_ h l

        abbrev V : Expr → Value
        V = plain p at_ h l

        -- an expression's checks are its tests, and its term has its value
        pub told : (x : Expr) → Sorted p at_ h l x → Uses Known Table x → Evaluates (code.code p a st x) (tests p at_ h l x) (plain p at_ h l x)
        told (e.Number z) s u = tells_value (Number (f.int z)) (Int z) (z, has_int z, refl)
        told e.Null s u = tells_value (Reference f.null) (Refers null) (null, has_null, refl)
        told (e.Variable i) s u = tells_value (symbolic_at st.locals i) (local l i) (locals i u)
        told (e.Field' q x g) s u = tells_after (T x) (λ k. code.field_read p a st (term k) g) (B x) (m.readable p at_ h (referent (V x)) g ∷ []) (V x) (read p h (referent (V x)) g) (told x s.0 u.0) (field (T x).gives (V x) g u.1 s.1 (told x s.0 u.0).value)
        told (e.Not' q x) s u = tells_then (T x) (λ k. Truth (not' (test k))) (B x) (V x) (says (not (truth (V x)))) (told x s u) (not (truth (V x)), is_not (test (T x).gives) (truth (V x)) (stands_test (T x).gives (V x) (told x s u).value), refl)
        told (e.Negate' q x c) s u =
            tells_after (T x) (λ k. code.negated p a c (w.compute o.Minus (nat 0) (term k))) (B x) (in_range c (pos 0 -ℤ int (V x)) ∷ []) (V x) (Int (pos 0 -ℤ int (V x))) (told x s u)
            (let k : Has (w.compute o.Minus (nat 0) (term (T x).gives)) (Int (pos 0 -ℤ int (V x))) = has_compute o.Minus (nat 0) (term (T x).gives) (Int (pos 0)) (V x) (has_int (pos 0)) (stands_term (T x).gives (V x) (told x s u).value) in
            tells_check (f.all_of (w.bounds c (w.compute o.Minus (nat 0) (term (T x).gives)))) (in_range c (pos 0 -ℤ int (V x))) (Number (w.compute o.Minus (nat 0) (term (T x).gives))) (Int (pos 0 -ℤ int (V x))) (is_in_range c (w.compute o.Minus (nat 0) (term (T x).gives)) (Int (pos 0 -ℤ int (V x))) k) (pos 0 -ℤ int (V x), k, refl))
        told (e.Arithmetic' op q x r y c) s u =
            tells_after (T x) (λ k. after (T y) (λ n. code.arithmetic p a op c (term k) (term n))) (B x) (B y ++ own_tests op c (int (V x)) (int (V y))) (V x) (Int (v.compute op (int (V x)) (int (V y)))) (told x s.0 u.0)
            (tells_after (T y) (λ n. code.arithmetic p a op c (term (T x).gives) (term n)) (B y) (own_tests op c (int (V x)) (int (V y))) (V y) (Int (v.compute op (int (V x)) (int (V y)))) (told y s.1 u.1)
            (subst (λ (b : Value). Evaluates (code.arithmetic p a op c (term (T x).gives) (term (T y).gives)) (own_tests op c (int (V x)) (int b)) (Int (v.compute op (int (V x)) (int b)))) (sym s.2.1)
            (tells_operator p a op c (term (T x).gives) (term (T y).gives) (V x) s.2.0 (stands_term (T x).gives (V x) (told x s.0 u.0).value) (subst (λ (b : Value). Has (term (T y).gives) b) s.2.1 (stands_term (T y).gives (V y) (told y s.1 u.1).value)))))
        told (e.Compare' op q x r y) s u =
            tells_after (T x) (λ k. after (T y) (λ n. Gives (Truth (w.compare op (term k) (term n))))) (B x) (B y) (V x) (says (v.compare op (V x) (V y))) (told x s.0 u.0)
            (tells_then (T y) (λ n. Truth (w.compare op (term (T x).gives) (term n))) (B y) (V y) (says (v.compare op (V x) (V y))) (told y s.1 u.1)
            (v.compare op (V x) (V y), is_compare op (term (T x).gives) (term (T y).gives) (V x) (V y) (stands_term (T x).gives (V x) (told x s.0 u.0).value) (stands_term (T y).gives (V y) (told y s.1 u.1).value), refl))
        told (e.And' q x r y) s u =
            let i : Is (test (T x).gives) (truth (V x)) = stands_test (T x).gives (V x) (told x s.0 u.0).value in
            tells_after (T x) (λ k. after (guard (test k) (T y)) (λ n. Gives (Truth (and' (test k) (test n))))) (B x) (map (λ u. not (truth (V x)) || u) (B y)) (V x) (says (truth (V x) && truth (V y))) (told x s.0 u.0)
            (tells_then (guard (test (T x).gives) (T y)) (λ n. Truth (and' (test (T x).gives) (test n))) (map (λ u. not (truth (V x)) || u) (B y)) (V y) (says (truth (V x) && truth (V y)))
            (tells_under (T y) (test (T x).gives) (truth (V x)) (B y) (V y) i (told y s.1 u.1))
            (truth (V x) && truth (V y), is_and (test (T x).gives) (test (T y).gives) (truth (V x)) (truth (V y)) i (stands_test (T y).gives (V y) (told y s.1 u.1).value), refl))
        told (e.Or' q x r y) s u =
            let i : Is (test (T x).gives) (truth (V x)) = stands_test (T x).gives (V x) (told x s.0 u.0).value in
            tells_after (T x) (λ k. after (guard (not' (test k)) (T y)) (λ n. Gives (Truth (or' (test k) (test n))))) (B x) (map (λ u. not (not (truth (V x))) || u) (B y)) (V x) (says (truth (V x) || truth (V y))) (told x s.0 u.0)
            (tells_then (guard (not' (test (T x).gives)) (T y)) (λ n. Truth (or' (test (T x).gives) (test n))) (map (λ u. not (not (truth (V x))) || u) (B y)) (V y) (says (truth (V x) || truth (V y)))
            (tells_under (T y) (not' (test (T x).gives)) (not (truth (V x))) (B y) (V y) (is_not (test (T x).gives) (truth (V x)) i) (told y s.1 u.1))
            (truth (V x) || truth (V y), is_or (test (T x).gives) (test (T y).gives) (truth (V x)) (truth (V y)) i (stands_test (T y).gives (V y) (told y s.1 u.1).value), refl))
        told (e.Choose' q x r y t z) s u =
            let i : Is (test (T x).gives) (truth (V x)) = stands_test (T x).gives (V x) (told x s.0 u.0).value in
            tells_after (T x) (λ k. after (guard (test k) (T y)) (λ n. after (guard (not' (test k)) (T z)) (λ j. Gives (choose (test k) n j)))) (B x) (map (λ u. not (truth (V x)) || u) (B y) ++ map (λ u. not (not (truth (V x))) || u) (B z)) (V x) (if truth (V x) then V y else V z) (told x s.0 u.0)
            (tells_after (guard (test (T x).gives) (T y)) (λ n. after (guard (not' (test (T x).gives)) (T z)) (λ j. Gives (choose (test (T x).gives) n j))) (map (λ u. not (truth (V x)) || u) (B y)) (map (λ u. not (not (truth (V x))) || u) (B z)) (V y) (if truth (V x) then V y else V z)
            (tells_under (T y) (test (T x).gives) (truth (V x)) (B y) (V y) i (told y s.1 u.1))
            (tells_then (guard (not' (test (T x).gives)) (T z)) (λ j. choose (test (T x).gives) (T y).gives j) (map (λ u. not (not (truth (V x))) || u) (B z)) (V z) (if truth (V x) then V y else V z)
            (tells_under (T z) (not' (test (T x).gives)) (not (truth (V x))) (B z) (V z) (is_not (test (T x).gives) (truth (V x)) i) (told z s.2 u.2))
            (stands_choose (test (T x).gives) (T y).gives (T z).gives (truth (V x)) (V y) (V z) i (told y s.1 u.1).value (told z s.2 u.2).value s.3)))
        told (e.Convert' q x c) s u =
            tells_after (T x) (λ k. code.converted p a c k) (B x) (in_range c (int (V x)) ∷ []) (V x) (V x) (told x s u)
            (tells_check (f.all_of (w.bounds c (term (T x).gives))) (in_range c (int (V x))) (T x).gives (V x) (is_in_range c (term (T x).gives) (V x) (stands_term (T x).gives (V x) (told x s u).value)) (told x s u).value)
