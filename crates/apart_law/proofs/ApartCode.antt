-- Code that breaks no rule names no ghost variable or field, and what it stores in is none; what ghost code stores in is one.
use Rattle.std.specs.Prelude.{ℕ, Bool, true, false, not, ◌&&◌, if◌then◌else◌, List, [], ◌∷◌, ◌++◌, slice_get, Option, Some, None, bytes_eq, IsTrue}
use Rattle.std.proofs.Common.{◌≡◌, refl, sym, ap, subst, ◌∙◌}
use Rattle.std.proofs.lemmas.Bool.{true≢false}
use Rattle.std.proofs.lemmas.Option.{none-some}
use Rattle.int_ranges.specs.declared.ctype.CType.{CType}
use Rattle.c_syntax.specs.declared.token.Span.{Span}
use Rattle.c_syntax.specs.declared.tree.UnaryOperator.{UnaryOperator}
use Rattle.c_syntax.specs.declared.tree.UnaryOperator.TheVariants as unary
use Rattle.c_syntax.specs.Expressions as e
use Rattle.c_syntax.specs.Expressions.{Id, Ty, Exp}
use Rattle.object_types.specs.Sets.{every}
use Rattle.typing_spec.specs.Declarations.{same_name}
use Rattle.typing_spec.specs.Contexts as texts
use Rattle.typing_spec.specs.Contexts.{Context, Variable, deeper}
use Rattle.typing_spec.specs.Types.{Kind, kind_of, kind, find_variable, variable_or_field, type_of_name}
use Rattle.typing_spec.specs.Rules as r
use Rattle.typing_spec.specs.Rules.{Rule}
use Rattle.typing_spec.specs.First.{places}
use Rattle.typing_spec.specs.Places.{place_if, places_if}
use Rattle.typing_spec.specs.GhostCode as rules
use Rattle.typing_spec.specs.GhostCode.{variable_is, field_is, named_where}
use Rattle.typing_spec.specs.Pieces.{Expression, operand, expression, expressions}
use Rattle.typing_spec.specs.TypeLaws.{Quiet}
use Rattle.typed_program.specs.Trees as t
use Rattle.typed_program.specs.Trees.{Code}
use Rattle.typed_program.specs.Numbers.{OfQuantifier, OfFunction, meaning_at, place_of}
use Rattle.typed_program.specs.Codes.{Binary, Computes, Compares, IsAnd, IsOr, IsImplies, IsIff, IsMember, Operand, binary, code, code_name, code_unary, code_binary, conversion, converted_by, common, in_type_of, operand_of, stored_in, stored}
use Rattle.typed_program.specs.Statements.{target, local}
use Rattle.typed_program.specs.Tables.{variable}
use Rattle.tree_forms.specs.InForm.{of_code, is_code, is_place, all_code}
use Rattle.typed_laws.proofs.Basics.{and_both, and_left, and_right, from_not, none_below, same_bytes, find_place}
use Rattle.typed_laws.proofs.Quiet.{quiet_left, quiet_right, quiet_last, not_placed, none_placed}
use Rattle.typed_laws.proofs.Facts.{runs}
use Rattle.typed_laws.proofs.BodyParts.{gone_on, found}
use Rattle.typed_laws.proofs.Sides.{Setting, here, around, at, Knows, valued, Named, field_of_object, declared_field}
use Rattle.apart_law.proofs.ApartTests.{ghost_variable, ghost_field, is_ghost_variable, is_ghost_target, concrete, concrete_place}

-- ---- code of parts that are concrete

module _ (p : t.Program) (f : t.FunctionInfo) where
  converted_concrete : (c : Option CType) (x : Code) → IsTrue (concrete p f x) → IsTrue (concrete p f (converted_by x c))
  converted_concrete None x h = h
  converted_concrete (Some c) x h = h

  pub in_type_concrete : (c : CType) (x : Operand) → IsTrue (concrete p f x.code) → IsTrue (concrete p f (in_type_of c x))
  in_type_concrete c x h = by x.is_int
    where
      by : (b : Bool) → IsTrue (concrete p f (if b then converted_by x.code (conversion x.ty c) else x.code))
      by true = converted_concrete (conversion x.ty c) x.code h
      by false = h

  unary_concrete : (o : UnaryOperator) (x : Code) (c : CType) → IsTrue (concrete p f x) → IsTrue (concrete p f (code_unary o x c))
  unary_concrete unary.Not x c h = h
  unary_concrete unary.Negate x c h = h

  pub binary_concrete : (b : Binary) (x y : Operand) → IsTrue (concrete p f x.code) → IsTrue (concrete p f y.code) → IsTrue (concrete p f (code_binary b x y))
  binary_concrete (Computes o) x y h k = and_both _ _ (in_type_concrete (common x y) x h) (in_type_concrete (common x y) y k)
  binary_concrete (Compares o) x y h k = and_both _ _ (in_type_concrete (common x y) x h) (in_type_concrete (common x y) y k)
  binary_concrete IsAnd x y h k = and_both _ _ h k
  binary_concrete IsOr x y h k = and_both _ _ h k
  binary_concrete IsImplies x y h k = refl
  binary_concrete IsIff x y h k = refl
  binary_concrete IsMember x y h k = refl

  pub stored_in_concrete : (ty : Ty) (x : Operand) → IsTrue (concrete p f x.code) → IsTrue (concrete p f (stored_in ty x))
  stored_in_concrete (e.Integer c) x h = in_type_concrete c x h
  stored_in_concrete (e.Pointer y) x h = h
  stored_in_concrete e.Object x h = h
  stored_in_concrete e.Claim x h = h

-- ---- what is named

-- a name is that of a variable, where there is no own field
of_variable : (v : Option Variable) (ty : Ty) → variable_or_field v None ≡ Some ty → (x : Variable) × (v ≡ Some x)
of_variable None ty h = absurd (none-some ty h)
of_variable (Some v) ty h = (v, refl)

-- rule 7 at an expression of code
no_ghost : (c : Context) → c.text ≡ texts.Code → (x : Exp) → ((rule : Rule) → places rule (Expression c x) ≡ []) → named_where (λ g. g) c x ≡ []
no_ghost c e x h = none_placed (named_where (λ g. g) c x) (subst (λ z. places_if (rules.is_code z) (named_where (λ g. g) c x) ≡ []) e (h r.GhostInCode))

pub code_runs : (c : Context) → c.text ≡ texts.Code → IsTrue (runs c.text)
code_runs c e = subst (λ z. IsTrue (runs z)) (sym e) refl

module _ (o : Setting) (vs : List Variable) (m : Knows o vs) (w : Context) where
  -- the variable that a name stands for, in the source and in its function's table
  record NameOf (x : Id) : Type 0 where
    is_of : Variable
    is_found : find_variable (here o vs) x ≡ Some is_of
    number : ℕ
    is_coded : code (around o vs w) (e.Name x) ≡ t.Variable number
    is_ghost_there : is_ghost_variable o.program o.info number ≡ is_of.is_ghost

  name_of : (x : Id) (i : Kind) → kind (here o vs) (e.Name x) ≡ Some i → NameOf x
  name_of x i h =
      let typed = gone_on (kind_of o.items) (type_of_name (here o vs) x) i h in
      let v = of_variable (find_variable (here o vs) x) typed.0 typed.1 in
      let f = found (λ (z : Variable). same_name z.name x) vs v.0 v.1 in
      let place = find_place (λ (z : Variable). same_name z.name x) vs v.0 v.1 in
      let number = place_of (λ n. bytes_eq n x.name) o.names in
      let there : slice_get o.info.variables number ≡ Some (variable o.items v.0) = subst (λ n. slice_get o.info.variables (place_of (λ z. bytes_eq z n) o.names) ≡ Some (variable o.items v.0)) (same_bytes v.0.name x f.0) (m.numbered v.0 f.1) in
      record {
        is_of = v.0;
        is_found = v.1;
        number = number;
        is_coded = ap (λ z. code_name (meaning_at (around o vs w) x z)) place.1 ∙ ap (λ b. code_name (if b then OfQuantifier place.0 else OfFunction number)) (none_below place.0);
        is_ghost_there = ap ghost_variable there;
      }

  -- what an expression stores in is declared as ghost or not, in the source and in the tables
  pub record Declared (x : Exp) : Type 0 where
    pub is_ghost : Bool
    pub in_tables : is_ghost_target o.program o.info (target (around o vs w) x) ≡ is_ghost
    pub place : Span
    pub in_source : (test : Bool → Bool) (b : Bool) (c : Context) → named_where test (at o vs b c) x ≡ place_if (test is_ghost) place

  name_declared : (x : Id) → NameOf x → Declared (e.Name x)
  name_declared x n = record {
    is_ghost = n.is_of.is_ghost;
    in_tables = ap (λ z. is_ghost_target o.program o.info (local z)) n.is_coded ∙ n.is_ghost_there;
    place = x.place;
    in_source = λ test b c. ap (λ z. place_if (variable_is (λ v. test v.is_ghost) z) x.place) n.is_found;
  }

  field_declared : (p : Span) (x : Exp) (y : Id) (i : Kind) → Named o vs w x y i → Declared (e.Field p x y)
  field_declared p x y i n = record {
    is_ghost = n.tree.is_ghost;
    in_tables = ap ghost_field n.at_number;
    place = y.place;
    in_source = λ test b c. ap (λ z. place_if (field_is (λ g. test g.is_ghost) z) y.place) (declared_field o vs w p x y i n);
  }

  pub declared : (b : Bool) (c : Context) → IsTrue (runs c.text) → (x : Exp) → IsTrue (is_place x) → Quiet (expression (at o vs b c) x) → Declared x
  declared b c rn (e.Name x) form q = let v = valued o vs m w b c rn (e.Name x) refl q in name_declared x (name_of x v.sort v.is_kind)
  declared b c rn (e.Field p x y) form q =
      let v = valued o vs m w b c rn (e.Field p x y) form q in
      let inner = valued o vs m w b (deeper c) rn x form (quiet_left (expression (at o vs b (deeper c)) x) (Expression (at o vs b c) (e.Field p x y) ∷ []) q) in
      field_declared p x y v.sort (field_of_object o vs w p x y v.sort inner v.is_kind)
  declared b c rn _ form q = absurd (true≢false (sym form))

  -- what code names isn't ghost
  not_ghost : (b : Bool) (c : Context) → c.text ≡ texts.Code → (x : Exp) → (d : Declared x) → ((rule : Rule) → places rule (Expression (at o vs b c) x) ≡ []) → d.is_ghost ≡ false
  not_ghost b c in_code x d h = not_placed d.is_ghost d.place (sym (d.in_source (λ g. g) b c) ∙ no_ghost (at o vs b c) in_code x h)

  name_plain : (b : Bool) (c : Context) → c.text ≡ texts.Code → (x : Id) → Quiet (expression (at o vs b c) (e.Name x)) → (i : ℕ) × (code (around o vs w) (e.Name x) ≡ t.Variable i) × (is_ghost_variable o.program o.info i ≡ false)
  name_plain b c in_code x h =
      let v = valued o vs m w b c (code_runs c in_code) (e.Name x) refl h in
      let n = name_of x v.sort v.is_kind in
      let said : place_if n.is_of.is_ghost x.place ≡ [] =
      sym (ap (λ z. place_if (variable_is (λ u. u.is_ghost) z) x.place) n.is_found) ∙ no_ghost (at o vs b c) in_code (e.Name x) (quiet_last [] (Expression (at o vs b c) (e.Name x)) h) in
      (n.number, n.is_coded, n.is_ghost_there ∙ not_placed n.is_of.is_ghost x.place said)

  -- ---- expressions of code

  pub code_concrete : (b : Bool) (c : Context) → c.text ≡ texts.Code → (x : Exp) → IsTrue (is_code x) → Quiet (expression (at o vs b c) x) → IsTrue (concrete o.program o.info (code (around o vs w) x))
  code_concrete b c in_code (e.Number q n ty) form h = refl
  code_concrete b c in_code (e.Name x) form h =
      let n = name_plain b c in_code x h in
      subst (λ z. IsTrue (concrete o.program o.info z)) (sym n.1) (ap not n.2)
  code_concrete b c in_code (e.Null q) form h = refl
  code_concrete b c in_code (e.Group q x) form h = code_concrete b c in_code x form (quiet_left (expression (at o vs b c) x) (Expression (at o vs b c) (e.Group q x) ∷ []) h)
  code_concrete b c in_code (e.Field q x y) form h =
      let d = declared b c (code_runs c in_code) (e.Field q x y) form h in
      let plain = not_ghost b c in_code (e.Field q x y) d (quiet_last (expression (at o vs b (deeper c)) x) (Expression (at o vs b c) (e.Field q x y)) h) in
      and_both _ _ (code_concrete b (deeper c) in_code x form (quiet_left (expression (at o vs b (deeper c)) x) (Expression (at o vs b c) (e.Field q x y) ∷ []) h)) (ap not (d.in_tables ∙ plain))
  code_concrete b c in_code (e.Unary q u x) form h =
      unary_concrete o.program o.info u (code (around o vs w) x) _ (code_concrete b (deeper c) in_code x form (quiet_left (expression (at o vs b (deeper c)) x) (Expression (at o vs b c) (e.Unary q u x) ∷ []) h))
  code_concrete b c in_code (e.Binary q u x y) form h =
      let a = around o vs w in
      let d = operand u c in
      let both = and_right (of_code u) (is_code x && is_code y) form in
      let inner = quiet_left (expression (at o vs b d) x ++ expression (at o vs b d) y) (Expression (at o vs b c) (e.Binary q u x y) ∷ []) h in
      binary_concrete o.program o.info (binary u) (operand_of (here o vs) x (code a x)) (operand_of (here o vs) y (code a y))
      (code_concrete b d in_code x (and_left (is_code x) (is_code y) both) (quiet_left (expression (at o vs b d) x) (expression (at o vs b d) y) inner))
      (code_concrete b d in_code y (and_right (is_code x) (is_code y) both) (quiet_right (expression (at o vs b d) x) (expression (at o vs b d) y) inner))
  code_concrete b c in_code (e.Conditional q x y z) form h =
      let a = around o vs w in
      let d = deeper c in
      let two = expression (at o vs b d) y ++ expression (at o vs b d) z in
      let inner = quiet_left (expression (at o vs b d) x ++ two) (Expression (at o vs b c) (e.Conditional q x y z) ∷ []) h in
      let behind = quiet_right (expression (at o vs b d) x) two inner in
      let forms = and_right (is_code x) (is_code y && is_code z) form in
      let u = operand_of (here o vs) y (code a y) in
      let v = operand_of (here o vs) z (code a z) in
      and_both _ _ (code_concrete b d in_code x (and_left (is_code x) (is_code y && is_code z) form) (quiet_left (expression (at o vs b d) x) two inner))
      (and_both _ _ (in_type_concrete o.program o.info (common u v) u (code_concrete b d in_code y (and_left (is_code y) (is_code z) forms) (quiet_left (expression (at o vs b d) y) (expression (at o vs b d) z) behind)))
      (in_type_concrete o.program o.info (common u v) v (code_concrete b d in_code z (and_right (is_code y) (is_code z) forms) (quiet_right (expression (at o vs b d) y) (expression (at o vs b d) z) behind))))
  code_concrete b c in_code _ form h = refl

  pub all_concrete : (b : Bool) (c : Context) → c.text ≡ texts.Code → (xs : List Exp) → IsTrue (all_code xs) → Quiet (expressions (at o vs b c) xs) → IsTrue (every (λ x. concrete o.program o.info (code (around o vs w) x)) xs)
  all_concrete b c in_code [] form h = refl
  all_concrete b c in_code (x ∷ xs) form h =
      and_both _ _ (code_concrete b c in_code x (and_left (is_code x) (all_code xs) form) (quiet_left (expression (at o vs b c) x) (expressions (at o vs b c) xs) h))
      (all_concrete b c in_code xs (and_right (is_code x) (all_code xs) form) (quiet_right (expression (at o vs b c) x) (expressions (at o vs b c) xs) h))

  pub stored_concrete : (ty : Ty) (x : Exp) → IsTrue (concrete o.program o.info (code (around o vs w) x)) → IsTrue (concrete o.program o.info (stored (around o vs w) ty x))
  stored_concrete ty x h = stored_in_concrete o.program o.info ty (operand_of (here o vs) x (code (around o vs w) x)) h

  -- ---- places

  -- code stores in no ghost place
  pub place_not_ghost : (b : Bool) (c : Context) → c.text ≡ texts.Code → (x : Exp) → IsTrue (is_place x) → Quiet (expression (at o vs b c) x) → is_ghost_target o.program o.info (target (around o vs w) x) ≡ false
  place_not_ghost b c in_code (e.Name x) form h =
      let n = name_plain b c in_code x h in
      ap (λ z. is_ghost_target o.program o.info (local z)) n.1 ∙ n.2
  place_not_ghost b c in_code (e.Field q x y) form h =
      let d = declared b c (code_runs c in_code) (e.Field q x y) form h in
      d.in_tables ∙ not_ghost b c in_code (e.Field q x y) d (quiet_last (expression (at o vs b (deeper c)) x) (Expression (at o vs b c) (e.Field q x y)) h)
  place_not_ghost b c in_code _ form h = absurd (true≢false (sym form))

  pub place_concrete : (b : Bool) (c : Context) → c.text ≡ texts.Code → (x : Exp) → IsTrue (is_place x) → Quiet (expression (at o vs b c) x) → IsTrue (concrete_place o.program o.info (target (around o vs w) x))
  place_concrete b c in_code (e.Name x) form h =
      let n = name_plain b c in_code x h in
      subst (λ z. IsTrue (concrete_place o.program o.info (local z))) (sym n.1) (ap not n.2)
  place_concrete b c in_code (e.Field q x y) form h = code_concrete b c in_code (e.Field q x y) form h
  place_concrete b c in_code _ form h = absurd (true≢false (sym form))

  -- ghost code stores in a ghost place: rule 8
  pub place_ghost : (b : Bool) (c : Context) → IsTrue (runs c.text) → (x : Exp) → IsTrue (is_place x) → Quiet (expression (at o vs b c) x) → named_where not (at o vs b c) x ≡ [] → IsTrue (is_ghost_target o.program o.info (target (around o vs w) x))
  place_ghost b c rn x form h k =
      let d = declared b c rn x form h in
      d.in_tables ∙ from_not d.is_ghost (not_placed (not d.is_ghost) d.place (sym (d.in_source not b c) ∙ k))
