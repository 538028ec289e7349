-- A good heap with closed objects, one of which owns the other, and a closed claim of the owner. Own.
-- struct F { int a; };                                                   line 1
-- struct _(claimable) G { struct F *p; _(invariant \mine(p)) };          line 2
-- void main(struct G *g) {
--   _(ghost \claim c = \make_claim({g}, g->p->a == 5);)                  line 4
-- }
use Rattle.std.specs.Prelude.{ℕ, zero, suc, pos, true, false, if◌then◌else◌, [], ◌∷◌, Option, None, Some}
use Rattle.object_types.specs.declared.references.Ref.{Ref}
use Rattle.object_types.specs.declared.values.Value.{Value}
use Rattle.object_types.specs.declared.values.Value.TheVariants.{Int, Ref as Refers}
use Rattle.object_types.specs.declared.records.Mode.TheVariants.{Closed}
use Rattle.int_ranges.specs.declared.ctype.CType.TheVariants.{Int as SignedInt}
use Rattle.method.specs.declared.program.DeclaredType.TheVariants.{Integer, Pointer, Claim}
use Rattle.method.specs.declared.program.Sort.TheVariants.{RefSort}
use Rattle.method.specs.declared.program.Comparison.TheVariants.{Equal}
use Rattle.method.specs.declared.program.Spec.TheVariants.{Number as SNumber, Variable as SVariable, This as SThis, Field' as SField, Member' as SMember, Compare' as SCompare}
use Rattle.method.specs.declared.program.RightSide.TheVariants.{NewClaim}
use Rattle.method.specs.declared.program.Action.TheVariants.{Define}
use Rattle.method.specs.declared.program.Claimed.TheVariants.{ClaimedVariable}
use Rattle.method.specs.declared.program.Hole.TheVariants.{OfVariable}
use Rattle.method.specs.declared.program.Stmt.TheVariants.{Do}
use Rattle.method.specs.declared.program.Item.TheVariants.{Struct, Function}
use Rattle.method.specs.declared.program.ClaimSite.{ClaimSite}
use Rattle.method.specs.declared.program.FunctionInfo.{FunctionInfo}
use Rattle.method.specs.declared.program.Program.{Program}
use Rattle.object_types.specs.References.{ref, thread, same_ref}
use Rattle.object_types.specs.Heap.{Heap, Record, nothing}
use Rattle.method.specs.Legal.{Good}
use Rattle.method.specs.Trace.{Memory, vec, box}

module _ (m : Memory) where
  abbrev pub main : FunctionInfo
  main = record {
    name = m.text;
    result = None;
    parameters = 1;
    variables = vec m (record { name = m.text; ty = Pointer 4; is_ghost = false } ∷ record { name = m.text; ty = Claim; is_ghost = true } ∷ []);
    requires_ = vec m [];
    ensures_ = vec m [];
    writes = vec m [];
    body = vec m (Do 4 (Define 1 (NewClaim 0)) ∷ []);
    end = 5;
  }

  abbrev pub first_site : ClaimSite
  first_site = record { function = 0; line = 4; variables = vec m (0 ∷ []); claimed = vec m (ClaimedVariable 0 ∷ []); conjuncts = vec m (record { shape = 0; holes = vec m (OfVariable 0 ∷ []) } ∷ []) }

  abbrev pub program : Program
  program = record {
    structs = vec m (record { name = m.text; line = 1; is_claimable = false; has_dynamic_owns = false; has_volatile_owns = false; first_field = 0; fields = 1; invariants = vec m []; has_approval = false; mine = vec m [] }
        ∷ record { name = m.text; line = 2; is_claimable = true; has_dynamic_owns = false; has_volatile_owns = false; first_field = 1; fields = 1; invariants = vec m (SMember (box m) (SField (box m) SThis 1) (box m) SThis ∷ []); has_approval = false; mine = vec m (SField (box m) SThis 1 ∷ []) } ∷ []);
    fields = vec m (record { name = m.text; of = 3; ty = Integer SignedInt; is_volatile = false; is_ghost = false; is_approved = false } ∷ record { name = m.text; of = 4; ty = Pointer 3; is_volatile = false; is_ghost = false; is_approved = false } ∷ []);
    functions = vec m (main ∷ []);
    sites = vec m (first_site ∷ []);
    shapes = vec m (record { holes = vec m (RefSort ∷ []); conjunct = SCompare Equal (box m) (SField (box m) (SField (box m) (SVariable 0) 1) 0) (box m) (SNumber (pos 5)) } ∷ []);
    items = vec m (Struct 0 ∷ Struct 1 ∷ Function 0 ∷ []);
    main = 0;
  }

abbrev pub f1 : Ref
f1 = ref 3 1

abbrev pub g1 : Ref
g1 = ref 4 1

abbrev pub c1 : Ref
c1 = ref 2 1

abbrev pub member_fields : ℕ → Option Value
member_fields zero = Some (Int (pos 5))
member_fields (suc f) = None

abbrev pub member_record : Record
member_record = record nothing { mode = Closed; owner = g1; fields = member_fields }

abbrev pub owner_fields : ℕ → Option Value
owner_fields zero = None
owner_fields (suc zero) = Some (Refers f1)
owner_fields (suc (suc f)) = None

abbrev pub owner_record : Record
owner_record = record nothing { mode = Closed; owner = thread 1; count = pos 1; owned = f1 ∷ []; fields = owner_fields }

abbrev pub claim_record : Record
claim_record = record nothing { mode = Closed; owner = thread 1; listed = g1 ∷ []; shapes = record { shape = 0; values = Refers g1 ∷ [] } ∷ [] }

abbrev pub heap : Heap
heap = record { get = (λ o. if same_ref o f1 then member_record else (if same_ref o g1 then owner_record else (if same_ref o c1 then claim_record else nothing))); support = f1 ∷ g1 ∷ c1 ∷ [] }

abbrev pub GoodHeapRow : Type 0
GoodHeapRow = (m : Memory) → Good (program m) heap
