-- The quantified formulas of invariants, of what names the members of fixed owned sets, and of contracts: what stands twice with
-- one number is one formula.
use Rattle.std.specs.Prelude.{ℕ, ◌+◌, List, [], ◌∷◌, ◌++◌, map}
use Rattle.std.proofs.Common.{◌≡◌, refl, sym, ap, subst, ◌∙◌, append_assoc}
use Rattle.c_syntax.specs.declared.token.Span.{Span}
use Rattle.c_syntax.specs.declared.tree.BinaryOperator.TheVariants as op
use Rattle.c_syntax.specs.declared.tree.Condition.TheVariants as conditions
use Rattle.c_syntax.specs.declared.tree.ListWord.TheVariants as lists
use Rattle.c_syntax.specs.Expressions as e
use Rattle.c_syntax.specs.Expressions.{Exp, Exps}
use Rattle.c_syntax.specs.Statements.{Inv}
use Rattle.c_syntax.specs.Items as i
use Rattle.c_syntax.specs.Items.{Written, Clause}
use Rattle.method.specs.declared.program.Program.{Program}
use Rattle.conditions.specs.Annotations.{Scene}
use Rattle.conditions.specs.Quantified.{QuantifiedFormula}
use Rattle.typed_program.specs.Trees as t
use Rattle.typed_program.specs.Trees.{Spec, Shape}
use Rattle.typed_program.specs.Numbers.{Around}
use Rattle.typed_program.specs.Annotations.{formulas, spec, members, arguments, mine}
use Rattle.typed_program.specs.Shapes.{Sorts, numbered}
use Rattle.typed_program.specs.Statements.{in_invariants, invariants}
use Rattle.typed_program.specs.Tables.{each_invariant, struct_formulas, item_of, list_formulas, clause_formulas, contract_formulas, each_clause, in_writes, in_clause, clause, mutable_items, listed_items, precondition, postcondition, written, numbered_clause}
use Rattle.text_numbers.proofs.Annotations.{each_quantifiers, contract_quantifiers}
use Rattle.text_numbers.proofs.Ranges.{IsPart, in_none, in_left, in_right, both_in, each_in, Within, none, part, join}
use Rattle.text_numbers.proofs.Expressions.{of_spec, of_specs, all_hold_is, spec_within}

-- ---- lists by parts

no_more : (xs : List QuantifiedFormula) → IsPart (xs ++ []) xs
no_more xs = both_in xs [] xs (λ q c. c) (in_none xs)

three_in : (xs ys zs qs : List QuantifiedFormula) → IsPart xs qs → IsPart ys qs → IsPart zs qs → IsPart (xs ++ ys ++ zs) qs
three_in xs ys zs qs h j k = both_in (xs ++ ys) zs qs (both_in xs ys qs h j) k

-- three lists of a first thing and of the others
three_and_three : (a b c d e f : List QuantifiedFormula) → IsPart ((a ++ d) ++ (b ++ e) ++ (c ++ f)) ((a ++ b ++ c) ++ (d ++ e ++ f))
three_and_three a b c d e f =
    let first = a ++ b ++ c in
    let others = d ++ e ++ f in
    let whole = first ++ others in
    let of_first : IsPart first whole = in_left first others in
    let of_others : IsPart others whole = in_right first others in
    three_in (a ++ d) (b ++ e) (c ++ f) whole
    (both_in a d whole (λ q h. of_first q (in_left (a ++ b) c q (in_left a b q h))) (λ q h. of_others q (in_left (d ++ e) f q (in_left d e q h))))
    (both_in b e whole (λ q h. of_first q (in_left (a ++ b) c q (in_right a b q h))) (λ q h. of_others q (in_left (d ++ e) f q (in_right d e q h))))
    (both_in c f whole (λ q h. of_first q (in_right (a ++ b) c q h)) (λ q h. of_others q (in_right (d ++ e) f q h)))

module _ (p : Program) (l : List Shape) (s : Sorts) where
  abbrev pub of_row : List Spec → Scene → List QuantifiedFormula
  of_row ws y = each_quantifiers p (map (numbered l s) ws) y

  row_append : (vs ws : List Spec) (y : Scene) → of_row (vs ++ ws) y ≡ of_row vs y ++ of_row ws y
  row_append [] ws y = refl
  row_append (v ∷ vs) ws y = ap (λ (z : List QuantifiedFormula). of_spec p l s v y ++ z) (row_append vs ws y) ∙ sym (append_assoc (of_spec p l s v y) (of_row vs y) (of_row ws y))

  -- ---- invariants

  pub loop_within : (a : Around) (n : ℕ) (xs : List Inv) (y : Scene) → Within n (in_invariants xs) (of_row (invariants a n xs) y)
  loop_within a n [] y = none n 0
  loop_within a n (x ∷ xs) y = join (spec_within p l s a n x.property y) (loop_within a (n + formulas x.property) xs y)

  pub invariants_within : (a : Around) (n : ℕ) (xs : List Inv) (y : Scene) → Within n (struct_formulas xs) (of_row (each_invariant (λ k x. spec a k x ∷ []) n xs) y)
  invariants_within a n [] y = none n 0
  invariants_within a n (x ∷ xs) y = join (spec_within p l s a n x.property y) (invariants_within a (n + formulas x.property) xs y)

  -- ---- each argument of \mine stands in its invariant too

  arguments_in : (a : Around) (n : ℕ) (xs : Exps) (y : Scene) → IsPart (of_row (arguments a n xs) y) (of_specs p l s (members a n xs) y)
  arguments_in a n e.Stop y = in_none []
  arguments_in a n (e.With x xs) y =
      let own = of_spec p l s (spec a n x) y in
      let m = n + formulas x in
      each_in own (of_row (arguments a m xs) y) (own ++ []) (of_specs p l s (members a m xs) y) (in_left own []) (arguments_in a m xs y)

  mine_in : (a : Around) (n : ℕ) (x : Exp) (y : Scene) → IsPart (of_row (mine a n x) y) (of_spec p l s (spec a n x) y)
  mine_in a n (e.Group p' x) y = mine_in a n x y
  mine_in a n (e.Binary p' op.And x z) y =
      let m = n + formulas x in
      let left = of_spec p l s (spec a n x) y in
      let right = of_spec p l s (spec a m z) y in
      subst (λ qs. IsPart qs (left ++ right)) (sym (row_append (mine a n x) (mine a m z) y)) (each_in (of_row (mine a n x) y) (of_row (mine a m z) y) left right (mine_in a n x y) (mine_in a m z y))
  mine_in a n (e.Several p' lists.Mine xs) y = subst (λ qs. IsPart (of_row (arguments a n xs) y) qs) (sym (all_hold_is p l s (members a n xs) y)) (arguments_in a n xs y)
  mine_in a n x y = in_none (of_spec p l s (spec a n x) y)

  pub each_mine_in : (a : Around) (n : ℕ) (xs : List Inv) (y : Scene) → IsPart (of_row (each_invariant (mine a) n xs) y) (of_row (each_invariant (λ k x. spec a k x ∷ []) n xs) y)
  each_mine_in a n [] y = in_none []
  each_mine_in a n (x ∷ xs) y =
      let m = n + formulas x.property in
      let own = of_spec p l s (spec a n x.property) y in
      let rest = of_row (each_invariant (λ k x. spec a k x ∷ []) m xs) y in
      subst (λ qs. IsPart qs (own ++ rest)) (sym (row_append (mine a n x.property) (each_invariant (mine a) m xs) y)) (each_in (of_row (mine a n x.property) y) (of_row (each_invariant (mine a) m xs) y) own rest (mine_in a n x.property y) (each_mine_in a m xs y))

  -- ---- contracts

  abbrev pub of_clauses : List t.Clause → Scene → List QuantifiedFormula
  of_clauses cs y = contract_quantifiers p (map (numbered_clause l s) cs) y

  clauses_append : (vs ws : List t.Clause) (y : Scene) → of_clauses (vs ++ ws) y ≡ of_clauses vs y ++ of_clauses ws y
  clauses_append [] ws y = refl
  clauses_append (v ∷ vs) ws y = ap (λ (z : List QuantifiedFormula). of_spec p l s v.spec y ++ z) (clauses_append vs ws y) ∙ sym (append_assoc (of_spec p l s v.spec y) (of_clauses vs y) (of_clauses ws y))

  -- an item that has to be mutable stands in the writes list too
  mutable_in : (at : Span) (a : Around) (n : ℕ) (xs : List Written) (y : Scene) → IsPart (of_clauses (map (clause at) (mutable_items a n xs)) y) (of_row (listed_items a n xs) y)
  mutable_in at a n [] y = in_none []
  mutable_in at a n (i.Thing x ∷ xs) y = λ q h. in_right (of_spec p l s (spec a n x) y) (of_row (listed_items a (n + formulas x) xs) y) q (mutable_in at a (n + formulas x) xs y q h)
  mutable_in at a n (i.SpanOf p' x ∷ xs) y =
      let own = of_spec p l s (spec a n x) y in
      let m = n + formulas x in
      each_in own (of_clauses (map (clause at) (mutable_items a m xs)) y) own (of_row (listed_items a m xs) y) (λ q h. h) (mutable_in at a m xs y)
  mutable_in at a n (i.ExtentOf p' x ∷ xs) y =
      let own = of_spec p l s (spec a n x) y in
      let m = n + formulas x in
      each_in own (of_clauses (map (clause at) (mutable_items a m xs)) y) own (of_row (listed_items a m xs) y) (λ q h. h) (mutable_in at a m xs y)

  listed_within : (a : Around) (n : ℕ) (xs : List Written) (y : Scene) → Within n (list_formulas xs) (of_row (listed_items a n xs) y)
  listed_within a n [] y = none n 0
  listed_within a n (x ∷ xs) y = join (spec_within p l s a n (item_of x) y) (listed_within a (n + formulas (item_of x)) xs y)

  -- what a clause requires, ensures and lets be written
  clause_within : (a : Around) (n : ℕ) (x : Clause) (y : Scene) → Within n (clause_formulas x) (of_clauses (precondition a n x) y ++ of_clauses (postcondition a n x) y ++ of_row (written a n x) y)
  clause_within a n (i.Holds p' conditions.Requires x) y =
      let own = of_spec p l s (spec (in_clause conditions.Requires a) n x) y in
      part (spec_within p l s (in_clause conditions.Requires a) n x y) ((own ++ []) ++ [] ++ []) (three_in (own ++ []) [] [] own (no_more own) (in_none own) (in_none own))
  clause_within a n (i.Holds p' conditions.Maintains x) y =
      let own = of_spec p l s (spec (in_clause conditions.Maintains a) n x) y in
      part (spec_within p l s (in_clause conditions.Maintains a) n x y) ((own ++ []) ++ (own ++ []) ++ []) (three_in (own ++ []) (own ++ []) [] own (no_more own) (no_more own) (in_none own))
  clause_within a n (i.Holds p' conditions.Ensures x) y =
      let own = of_spec p l s (spec (in_clause conditions.Ensures a) n x) y in
      part (spec_within p l s (in_clause conditions.Ensures a) n x y) ([] ++ (own ++ []) ++ []) (three_in [] (own ++ []) [] own (in_none own) (no_more own) (in_none own))
  clause_within a n (i.Writes p' xs) y =
      let own = of_row (listed_items (in_writes a) n xs) y in
      let mutable = of_clauses (map (clause p') (mutable_items (in_writes a) n xs)) y in
      part (listed_within (in_writes a) n xs y) (mutable ++ [] ++ own) (three_in mutable [] own own (mutable_in p' (in_writes a) n xs y) (in_none own) (λ q h. h))

  pub contract_within : (a : Around) (n : ℕ) (xs : List Clause) (y : Scene) → Within n (contract_formulas xs) (of_clauses (each_clause (precondition a) n xs) y ++ of_clauses (each_clause (postcondition a) n xs) y ++ of_row (each_clause (written a) n xs) y)
  contract_within a n [] y = none n 0
  contract_within a n (x ∷ xs) y =
      let m = n + clause_formulas x in
      let b = of_clauses (precondition a n x) y in
      let c = of_clauses (postcondition a n x) y in
      let d = of_row (written a n x) y in
      let e = of_clauses (each_clause (precondition a) m xs) y in
      let f = of_clauses (each_clause (postcondition a) m xs) y in
      let g = of_row (each_clause (written a) m xs) y in
      let both = part (join (clause_within a n x y) (contract_within a m xs y)) ((b ++ e) ++ (c ++ f) ++ (d ++ g)) (three_and_three b c d e f g) in
      let is : of_clauses (each_clause (precondition a) n (x ∷ xs)) y ++ of_clauses (each_clause (postcondition a) n (x ∷ xs)) y ++ of_row (each_clause (written a) n (x ∷ xs)) y ≡ (b ++ e) ++ (c ++ f) ++ (d ++ g) =
      λ i. clauses_append (precondition a n x) (each_clause (precondition a) m xs) y i ++ clauses_append (postcondition a n x) (each_clause (postcondition a) m xs) y i ++ row_append (written a n x) (each_clause (written a) m xs) y i in
      subst (λ qs. Within n (clause_formulas x + contract_formulas xs) qs) (sym is) both
