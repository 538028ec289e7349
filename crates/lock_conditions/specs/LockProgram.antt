-- The typed program of the lock, with the names of its source. Own. Its bodies and contracts are those of the worked row that the machine runs (RowLock of method), which has no names.
use Rattle.std.specs.Prelude.{ℕ, pos, true, false, List, [], ◌∷◌, codes}
use Prim.Native.String.{String}
use Rattle.std.specs.declared.alloc.Global.{Global}
use Rattle.std.specs.declared.vec.Vec.{Vec}
use Rattle.int_ranges.specs.declared.ctype.CType.TheVariants.{Int as SignedInt}
use Rattle.method.specs.declared.program.DeclaredType.{DeclaredType}
use Rattle.method.specs.declared.program.DeclaredType.TheVariants.{Integer, Pointer, Object, Claim}
use Rattle.method.specs.declared.program.Comparison.TheVariants.{Equal, GreaterEqual}
use Rattle.method.specs.declared.program.Spec.{Spec}
use Rattle.method.specs.declared.program.Spec.TheVariants.{Number, This, Field', Member', Compare', Implies'}
use Rattle.method.specs.declared.program.FieldInfo.{FieldInfo}
use Rattle.method.specs.declared.program.StructInfo.{StructInfo}
use Rattle.method.specs.declared.program.VariableInfo.{VariableInfo}
use Rattle.method.specs.declared.program.FunctionInfo.{FunctionInfo}
use Rattle.method.specs.declared.program.Program.{Program}
use Rattle.method.specs.Trace.{Memory, vec, box}
use Rattle.method.specs.RowLock as row

module _ (m : Memory) where
  abbrev pub name : String → Vec ℕ Global
  name text = vec m (codes text)

  abbrev pub concrete : String → DeclaredType → VariableInfo
  concrete text ty = record { name = name text; ty = ty; is_ghost = false }

  abbrev pub ghost_variable : String → DeclaredType → VariableInfo
  ghost_variable text ty = record { name = name text; ty = ty; is_ghost = true }

  abbrev pub data_struct : StructInfo
  data_struct =
      record {
        name = name "Data";
        line = 2;
        is_claimable = false;
        has_dynamic_owns = false;
        has_volatile_owns = false;
        first_field = 0;
        fields = 1;
        invariants = vec m (Compare' GreaterEqual (box m) (Field' (box m) This 0) (box m) (Number (pos 0)) ∷ []);
        has_approval = false;
        mine = vec m [];
      }

  -- locked == 0 ==> \mine(protected_obj)
  abbrev pub owns_protected : Spec
  owns_protected =
      Implies' (box m) (Compare' Equal (box m) (Field' (box m) This 1) (box m) (Number (pos 0)))
      (box m) (Member' (box m) (Field' (box m) This 2) (box m) This)

  abbrev pub lock_struct : StructInfo
  lock_struct =
      record {
        name = name "Lock";
        line = 6;
        is_claimable = true;
        has_dynamic_owns = false;
        has_volatile_owns = true;
        first_field = 1;
        fields = 2;
        invariants = vec m (owns_protected ∷ []);
        has_approval = false;
        mine = vec m [];
      }

  abbrev pub lock_fields : List FieldInfo
  lock_fields =
      record { name = name "v"; of = 3; ty = Integer SignedInt; is_volatile = false; is_ghost = false; is_approved = false }
      ∷ record { name = name "locked"; of = 4; ty = Integer SignedInt; is_volatile = true; is_ghost = false; is_approved = false }
      ∷ record { name = name "protected_obj"; of = 4; ty = Object; is_volatile = false; is_ghost = true; is_approved = false }
      ∷ []

  -- a function of the row, with its name and those of its variables
  abbrev pub with_names : String → List VariableInfo → FunctionInfo → FunctionInfo
  with_names text variables f = record f { name = name text; variables = vec m variables }

  abbrev pub initialize_lock : FunctionInfo
  initialize_lock = with_names "InitializeLock" (concrete "l" (Pointer 4) ∷ ghost_variable "obj" Object ∷ []) (row.fn_InitializeLock m)

  abbrev pub acquire : FunctionInfo
  acquire =
      with_names "Acquire" (concrete "l" (Pointer 4) ∷ ghost_variable "c" Claim ∷ concrete "stop" (Integer SignedInt) ∷ [])
      (row.fn_Acquire m)

  abbrev pub release : FunctionInfo
  release = with_names "Release" (concrete "l" (Pointer 4) ∷ ghost_variable "c" Claim ∷ []) (row.fn_Release m)

  abbrev pub worker : FunctionInfo
  worker = with_names "Worker" (concrete "l" (Pointer 4) ∷ concrete "d" (Pointer 3) ∷ ghost_variable "c" Claim ∷ []) (row.fn_Worker m)

  abbrev pub main : FunctionInfo
  main =
      with_names "main" (concrete "l" (Pointer 4) ∷ concrete "d" (Pointer 3) ∷ ghost_variable "a" Claim ∷ ghost_variable "b" Claim ∷ [])
      (row.fn_main m)

  abbrev pub lock : Program
  lock =
      record (row.program m) {
        structs = vec m (data_struct ∷ lock_struct ∷ []);
        fields = vec m lock_fields;
        functions = vec m (initialize_lock ∷ acquire ∷ release ∷ worker ∷ main ∷ []);
      }
