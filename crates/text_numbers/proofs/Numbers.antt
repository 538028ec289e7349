-- The quantified formulas of a source's program stand under their numbers.
use Rattle.std.specs.Prelude.{ℕ, ◌==◌, Bool, true, false, not, ◌&&◌, if◌then◌else◌, List, [], ◌∷◌, ◌++◌, map, flat_map, length, Some, option_map, slice_get, Contains}
use Rattle.std.proofs.Common.{◌≡◌, refl, sym, ap, subst, inl, inr, arith, ◌∙◌}
use Rattle.std.proofs.lemmas.Bool.{eqb-true, eq-eqb}
use Rattle.std.proofs.lemmas.Option.{slice_get-map}
use Rattle.c_syntax.specs.Items as i
use Rattle.c_syntax.specs.Items.{StructTree, FunctionTree, Item}
use Rattle.typing_spec.specs.Declarations.{has_dynamic_owns, has_volatile_owns}
use Rattle.method.specs.declared.program.Program.{Program}
use Rattle.method.specs.declared.program.StructInfo as infos
use Rattle.conditions.specs.Quantified.{QuantifiedFormula, find_quantifier, specs_quantifiers, program_quantifiers, struct_words}
use Rattle.condition_meaning.specs.Annotated.{Each, IsListed}
use Rattle.typed_program.specs.Trees as t
use Rattle.typed_program.specs.Trees.{Spec, StructInfo, FunctionInfo}
use Rattle.typed_program.specs.Views as seen
use Rattle.typed_program.specs.Annotations.{mine}
use Rattle.typed_program.specs.Statements.{Counters, plus, plus_formulas}
use Rattle.typed_program.specs.Tables.{around_struct, around_function, each_invariant, invariants_of, contract_formulas, struct, function, in_item, all_items, start, struct_table, function_table, no_sorts, sorts_of, shapes, numbered_struct, numbered_function, program}
use Rattle.typed_laws.proofs.Basics.{contains_cases, contains_head, contains_tail, contains_none, contained, to_flat_map}
use Rattle.typed_laws.proofs.TableLists.{mapped}
use Rattle.typed_laws.proofs.StructTables.{row_struct}
use Rattle.text_numbers.specs.Laws.{NumbersLaw}
use Rattle.text_numbers.proofs.Annotations.{each_quantifiers, each_quantifiers_seen}
use Rattle.text_numbers.proofs.Ranges.{IsPart, in_none, in_left, in_right, both_in, Spans, empty, part_spans, in_text, join_spans, text_first}
use Rattle.text_numbers.proofs.Clauses.{of_row, invariants_within, each_mine_in, contract_within}
use Rattle.text_numbers.proofs.Bodies.{of_struct, of_function, of_program, program_seen, words}
use Rattle.text_numbers.proofs.Statements.{rows_spans}

-- ---- the one with its number

-- the first with the number of one that a list contains
record FirstWith (q : QuantifiedFormula) (qs : List QuantifiedFormula) : Type 0 where
  formula : QuantifiedFormula
  in_list : Contains qs formula
  number : formula.number ≡ q.number
  is : find_quantifier q.number qs ≡ Some formula

first_with : (q : QuantifiedFormula) (qs : List QuantifiedFormula) → Contains qs q → FirstWith q qs
first_with q [] at = absurd (contains_none q at)
first_with q (x ∷ qs) at = by (x.number == q.number) refl (λ there. first_with q qs there)
  where
    behind : (x.number == q.number) ≡ false → Contains qs q
    behind is =
        elim (contains_cases x q qs at) [
          | inl same ↦ absurd (let e : (x.number == q.number) ≡ true = eq-eqb x.number q.number (ap (λ (z : QuantifiedFormula). z.number) same) in cc)
          | inr there ↦ there
        ]

    by : (b : Bool) → (x.number == q.number) ≡ b → (Contains qs q → FirstWith q qs) → FirstWith q (x ∷ qs)
    by true is next = record { formula = x; in_list = contains_head x qs; number = eqb-true x.number q.number is; is = ap (λ b. if b then Some x else find_quantifier q.number qs) is }
    by false is next = let z = next (behind is) in record { formula = z.formula; in_list = contains_tail x z.formula qs z.in_list; number = z.number; is = ap (λ b. if b then Some x else find_quantifier q.number qs) is ∙ z.is }

each_from : (p : Program) (P : QuantifiedFormula → Type 0) (qs : List QuantifiedFormula) → ((q : QuantifiedFormula) → Contains qs q → P q) → Each p P qs
each_from p P [] h = tt
each_from p P (q ∷ qs) h = (h q (contains_head q qs), each_from p P qs (λ r at. h r (contains_tail q r qs at)))

-- ---- items

module _ (p : Program) (items : List Item) where
  abbrev numbered_of : FunctionInfo → FunctionInfo
  numbered_of f = numbered_function (shapes items) (sorts_of f) f

  -- those of structs and of functions, of items whose first numbers are these
  abbrev of_structs : Counters → List Item → List QuantifiedFormula
  of_structs n xs = flat_map (of_struct p) (map (numbered_struct (shapes items)) (struct_table items n xs))

  abbrev of_functions : Counters → List Item → List QuantifiedFormula
  of_functions n xs = flat_map (of_function p) (map numbered_of (function_table items n xs))

  struct_spans : (n : Counters) (u : StructTree) → Spans n (in_item (i.Struct u)) (of_struct p (numbered_struct (shapes items) (struct items n.formulas u)))
  struct_spans n u = in_text (invariants_within p (shapes items) no_sorts (around_struct items u) n.formulas (invariants_of u.members) struct_words)

  function_spans : (n : Counters) (h : FunctionTree) → Spans n (in_item (i.Function h)) (of_function p (numbered_of (function items n h)))
  function_spans n h =
      let g = function items n h in
      let a = around_function items h in
      let s = sorts_of g in
      let y = words (numbered_of g) in
      text_first (contract_within p (shapes items) s a n.formulas h.contract y) (rows_spans p (shapes items) s (length (numbered_of g).writes) y a (plus_formulas n (contract_formulas h.contract)) h.body.all)

  items_spans : (n : Counters) (xs : List Item) → Spans n (all_items xs) (of_structs n xs ++ of_functions n xs)
  items_spans n [] = empty n (all_items [])
  items_spans n (i.Struct u ∷ xs) =
      let m = plus n (in_item (i.Struct u)) in
      let own = of_struct p (numbered_struct (shapes items) (struct items n.formulas u)) in
      let rest = of_structs m xs ++ of_functions m xs in
      let in_rest : IsPart rest (own ++ rest) = in_right own rest in
      part_spans (join_spans (struct_spans n u) (items_spans m xs)) ((own ++ of_structs m xs) ++ of_functions m xs)
      (both_in (own ++ of_structs m xs) (of_functions m xs) (own ++ rest) (both_in own (of_structs m xs) (own ++ rest) (in_left own rest) (λ q at. in_rest q (in_left (of_structs m xs) (of_functions m xs) q at))) (λ q at. in_rest q (in_right (of_structs m xs) (of_functions m xs) q at)))
  items_spans n (i.Function h ∷ xs) =
      let m = plus n (in_item (i.Function h)) in
      let own = of_function p (numbered_of (function items n h)) in
      let rest = of_structs m xs ++ of_functions m xs in
      let in_rest : IsPart rest (own ++ rest) = in_right own rest in
      part_spans (join_spans (function_spans n h) (items_spans m xs)) (of_structs m xs ++ (own ++ of_functions m xs))
      (both_in (of_structs m xs) (own ++ of_functions m xs) (own ++ rest) (λ q at. in_rest q (in_left (of_structs m xs) (of_functions m xs) q at)) (both_in own (of_functions m xs) (own ++ rest) (in_left own rest) (λ q at. in_rest q (in_right (of_structs m xs) (of_functions m xs) q at))))

  -- ---- fixed owned sets

  -- what names the members of a fixed owned set stands in the invariants too
  mine_of_struct : (k : ℕ) (c : StructInfo) → slice_get (program items).structs k ≡ Some c → IsPart (each_quantifiers p c.mine struct_words) (of_struct p c)
  mine_of_struct k c at =
      let z = mapped (numbered_struct (shapes items)) (struct_table items (start items) items) k c at in
      let r = row_struct items (start items) items k z.0 z.1 in
      subst (λ (w : StructInfo). IsPart (each_quantifiers p w.mine struct_words) (of_struct p w)) (ap (numbered_struct (shapes items)) r.3 ∙ z.2) (by r.1 r.0 (not (has_dynamic_owns r.1) && not (has_volatile_owns r.1)))
    where
      by : (u : StructTree) (m : ℕ) (b : Bool) → IsPart (of_row p (shapes items) no_sorts (if b then each_invariant (mine (around_struct items u)) m (invariants_of u.members) else []) struct_words) (of_struct p (numbered_struct (shapes items) (struct items m u)))
      by u m true = each_mine_in p (shapes items) no_sorts (around_struct items u) m (invariants_of u.members) struct_words
      by u m false = in_none (of_struct p (numbered_struct (shapes items) (struct items m u)))

-- ---- the law

module _ (items : List Item) (p : Program) (same : seen.program p ≡ program items) where
  whole : program_quantifiers p ≡ of_program p (program items)
  whole = program_seen p ∙ ap (of_program p) same

  single : (q r : QuantifiedFormula) → Contains (program_quantifiers p) q → Contains (program_quantifiers p) r → q.number ≡ r.number → q ≡ r
  single q r at there =
      (items_spans p items (start items) items).single (omega arith) q r (subst (λ qs. Contains qs q) whole at) (subst (λ qs. Contains qs r) whole there)

  is_listed : (q : QuantifiedFormula) → Contains (program_quantifiers p) q → IsListed p q
  is_listed q at = let z = first_with q (program_quantifiers p) at in z.is ∙ ap Some (single z.formula q z.in_list at z.number)

  members_are_listed : (n : ℕ) (c : infos.StructInfo) → slice_get p.structs.items n ≡ Some c → Each p (IsListed p) (specs_quantifiers p c.mine.items struct_words)
  members_are_listed n c at = each_from p (IsListed p) (specs_quantifiers p c.mine.items struct_words) (λ q h. is_listed q (in_program q h))
    where
      there : slice_get (program items).structs n ≡ Some (seen.struct c)
      there = subst (λ (w : t.Program). slice_get w.structs n ≡ Some (seen.struct c)) same (slice_get-map seen.struct p.structs.items n ∙ ap (option_map seen.struct) at)

      in_program : (q : QuantifiedFormula) → Contains (specs_quantifiers p c.mine.items struct_words) q → Contains (program_quantifiers p) q
      in_program q h =
          let own = mine_of_struct p items n (seen.struct c) there q (subst (λ qs. Contains qs q) (each_quantifiers_seen p c.mine.items struct_words) h) in
          let all = to_flat_map (of_struct p) (program items).structs (seen.struct c) q (contained (program items).structs n (seen.struct c) there) own in
          subst (λ qs. Contains qs q) (sym whole) (in_left (flat_map (of_struct p) (program items).structs) (flat_map (of_function p) (program items).functions) q all)

pub numbers_law : NumbersLaw
numbers_law items p same = record { numbered = each_from p (IsListed p) (program_quantifiers p) (is_listed items p same); members_numbered = members_are_listed items p same }
