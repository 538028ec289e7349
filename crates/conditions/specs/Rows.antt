-- Worked conditions of three small programs. Each formula was written down by hand from the translation in words, and is compared by computation.
use Rattle.std.specs.Prelude.{◌≡◌, pos, negsuc, false, [], ◌∷◌, length, None, refl}
use Rattle.int_ranges.specs.declared.ctype.CType.TheVariants.{Int as SignedInt}
use Rattle.method.specs.declared.program.DeclaredType.TheVariants.{Integer, Pointer}
use Rattle.method.specs.declared.program.Operator.TheVariants.{Plus}
use Rattle.method.specs.declared.program.Comparison.TheVariants.{Less}
use Rattle.method.specs.declared.program.Expr.TheVariants as e
use Rattle.method.specs.declared.program.Spec.TheVariants as s
use Rattle.method.specs.declared.program.Target.TheVariants.{FieldOf}
use Rattle.method.specs.declared.program.RightSide.TheVariants.{Compute}
use Rattle.method.specs.declared.program.Simple.TheVariants.{Assign}
use Rattle.method.specs.declared.program.Action.TheVariants.{Simply, Define, AssertSpec}
use Rattle.method.specs.declared.program.Stmt.TheVariants.{Do}
use Rattle.method.specs.declared.program.Item.TheVariants.{Struct, Function}
use Rattle.method.specs.declared.program.FunctionInfo.{FunctionInfo}
use Rattle.method.specs.declared.program.Program.{Program}
use Rattle.method.specs.Trace.{Memory, vec, box}
use Rattle.method.specs.Labels.{program_labels}
use Rattle.terms.specs.declared.term.Kind.TheVariants as k
use Rattle.terms.specs.Formula.{Formula, binary}
use Rattle.conditions.specs.Formulas.{node, int, nat, null, me, integer, reference, heap, not', and', or', imp, eq, le, typ, get}
use Rattle.conditions.specs.Conditions.{item_conditions, formulas}

-- `void main(int x) _(requires x < 5) { _(assert x + 1 < 6) }`: at entry the heap is good, x is an int, and x isn't 5 or more; then x + 1 isn't 6 or more. No heap is read, so nobody acts before the assertion.
abbrev pub sum_condition : Formula
sum_condition =
    let x = integer 0 in
    imp (and' (node k.Good (heap 0 ∷ [])) (and' (le (int (negsuc 2147483647)) x) (and' (le x (nat 2147483647)) (not' (le (nat 5) x))))) (not' (le (nat 6) (binary k.Add x (nat 1))))

-- `struct A { int n; }; void f(struct A *p) _(requires \mutable(p)) _(writes p) { p->n = 1; }`: what is known before the store: the heap at entry is good, p is NULL or an A, p was open with `\me` as its owner, and other threads led from that heap to the present one.
abbrev pub store_facts : Formula → Formula
store_facts rest =
    let p = reference 0 in
    and' (node k.Good (heap 0 ∷ [])) (
    and' (or' (eq p null) (eq (typ p) (nat 3))) (
    and' (and' (eq (get 0 (heap 0) (p ∷ [])) (nat 1)) (eq (get 1 (heap 0) (p ∷ [])) me)) rest
    )
    )

abbrev pub others_acted : Formula
others_acted = node k.Rely (me ∷ heap 0 ∷ heap 1 ∷ [])

-- p is mutable now
abbrev pub mutable_now : Formula
mutable_now = and' (eq (get 0 (heap 1) (reference 0 ∷ [])) (nat 1)) (eq (get 1 (heap 1) (reference 0 ∷ [])) me)

abbrev pub store_is_mutable : Formula
store_is_mutable = imp (store_facts others_acted) mutable_now

-- p is in the writes list, or `\me` didn't own it at entry
abbrev pub store_is_writable : Formula
store_is_writable = imp (store_facts (and' others_acted mutable_now)) (or' (eq (reference 0) (reference 0)) (not' (eq (get 1 (heap 0) (reference 0 ∷ [])) me)))

-- `struct A { int n; }; void f(struct A *p) _(requires \mutable(p)) { int y = p->n; }`: the read is quiet, so the heap stays, and is known to be good; p is mutable, or in the stable set.
abbrev pub read_is_allowed : Formula
read_is_allowed =
    let p = reference 0 in
    imp (store_facts (node k.Good (heap 0 ∷ []))) (or' (and' (eq (get 0 (heap 0) (p ∷ [])) (nat 1)) (eq (get 1 (heap 0) (p ∷ [])) me)) (node k.Stab (me ∷ heap 0 ∷ p ∷ heap 0 ∷ [])))

module _ (m : Memory) where
  abbrev pub sum_main : FunctionInfo
  sum_main =
      record { name = m.text; result = None; parameters = 1; variables = vec m (record { name = m.text; ty = Integer SignedInt; is_ghost = false } ∷ []); requires_ = vec m (record { line = 1; spec = s.Compare' Less (box m) (s.Variable 0) (box m) (s.Number (pos 5)) } ∷ []); ensures_ = vec m []; writes = vec m []; body = vec m (Do 1 (AssertSpec (s.Compare' Less (box m) (s.Arithmetic' Plus (box m) (s.Variable 0) (box m) (s.Number (pos 1))) (box m) (s.Number (pos 6)))) ∷ []); end = 1 }

  abbrev pub sum_program : Program
  sum_program = record { structs = vec m []; fields = vec m []; functions = vec m (sum_main ∷ []); sites = vec m []; shapes = vec m []; items = vec m (Function 0 ∷ []); main = 0 }

  pub sum_row : formulas sum_program ≡ sum_condition ∷ []
  sum_row = refl

  pub sum_labels : length (program_labels sum_program) ≡ 1
  sum_labels = refl

  abbrev pub store_function : FunctionInfo
  store_function =
      record { name = m.text; result = None; parameters = 1; variables = vec m (record { name = m.text; ty = Pointer 3; is_ghost = false } ∷ []); requires_ = vec m (record { line = 2; spec = s.Mutable' (box m) (s.Variable 0) } ∷ []); ensures_ = vec m []; writes = vec m (s.Variable 0 ∷ []); body = vec m (Do 2 (Simply (Assign (FieldOf (e.Variable 0) 0) (Compute (e.Number (pos 1))))) ∷ []); end = 2 }

  abbrev pub store_program : Program
  store_program =
      record { structs = vec m (record { name = m.text; line = 1; is_claimable = false; has_dynamic_owns = false; has_volatile_owns = false; first_field = 0; fields = 1; has_approval = false; invariants = vec m []; mine = vec m [] } ∷ []); fields = vec m (record { name = m.text; of = 3; ty = Integer SignedInt; is_volatile = false; is_ghost = false; is_approved = false } ∷ []); functions = vec m (store_function ∷ []); sites = vec m []; shapes = vec m []; items = vec m (Struct 0 ∷ Function 0 ∷ []); main = 0 }

  -- a type without an invariant has no condition
  pub struct_row : item_conditions store_program (Struct 0) ≡ []
  struct_row = refl

  pub store_row : item_conditions store_program (Function 0) ≡ store_is_mutable ∷ store_is_writable ∷ []
  store_row = refl

  pub store_labels : length (program_labels store_program) ≡ 2
  store_labels = refl

  abbrev pub read_function : FunctionInfo
  read_function =
      record { name = m.text; result = None; parameters = 1; variables = vec m (record { name = m.text; ty = Pointer 3; is_ghost = false } ∷ record { name = m.text; ty = Integer SignedInt; is_ghost = false } ∷ []); requires_ = vec m (record { line = 2; spec = s.Mutable' (box m) (s.Variable 0) } ∷ []); ensures_ = vec m []; writes = vec m []; body = vec m (Do 2 (Define 1 (Compute (e.Field' (box m) (e.Variable 0) 0))) ∷ []); end = 2 }

  abbrev pub read_program : Program
  read_program =
      record { structs = vec m (record { name = m.text; line = 1; is_claimable = false; has_dynamic_owns = false; has_volatile_owns = false; first_field = 0; fields = 1; has_approval = false; invariants = vec m []; mine = vec m [] } ∷ []); fields = vec m (record { name = m.text; of = 3; ty = Integer SignedInt; is_volatile = false; is_ghost = false; is_approved = false } ∷ []); functions = vec m (read_function ∷ []); sites = vec m []; shapes = vec m []; items = vec m (Struct 0 ∷ Function 0 ∷ []); main = 0 }

  pub read_row : formulas read_program ≡ read_is_allowed ∷ []
  read_row = refl

  pub read_labels : length (program_labels read_program) ≡ 1
  read_labels = refl
