-- Programs whose ghost and concrete code are apart.
use Rattle.std.proofs.Common.{◌≡◌, true, ◌||◌, refl}
use Rattle.method.specs.declared.program.VariableInfo.{VariableInfo}
use Rattle.method.specs.declared.program.FieldInfo.{FieldInfo}
use Rattle.method.specs.declared.program.FunctionInfo.{FunctionInfo}
use Rattle.method.specs.declared.program.Program.{Program}
use Rattle.object_types.specs.Sets.{every}
use Rattle.method.specs.RowLock.{program as lock_program}
use Rattle.safe_counter.specs.Shared.{program as counter_program}
use Rattle.machine_laws.proofs.Typed.{every_at}
use Rattle.plain_machine.specs.GhostApart.{GhostApart, is_plain_type, stmt_apart}
use Rattle.erasure_law.specs.Laws.{LockIsApart, CounterIsApart}

-- the premise is a test
apart_by :
    (p : Program) → every (λ (f : FunctionInfo). every (stmt_apart p f) f.body.items) p.functions.items ≡ true →
    every (λ (f : FunctionInfo). every (λ (v : VariableInfo). v.is_ghost || is_plain_type v.ty) f.variables.items) p.functions.items ≡ true →
    every (λ (i : FieldInfo). i.is_ghost || is_plain_type i.ty) p.fields.items ≡ true → GhostApart p
apart_by p bodies variables fields = record {
  bodies = λ k f e. every_at (λ (f : FunctionInfo). every (stmt_apart p f) f.body.items) p.functions.items k f bodies e;
  variables = λ k f e. every_at (λ (f : FunctionInfo). every (λ (v : VariableInfo). v.is_ghost || is_plain_type v.ty) f.variables.items) p.functions.items k f variables e;
  fields = fields;
}

pub lock_is_apart : LockIsApart
lock_is_apart m = apart_by (lock_program m) refl refl refl

pub counter_is_apart : CounterIsApart
counter_is_apart m = apart_by (counter_program m) refl refl refl
