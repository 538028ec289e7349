-- References. From CAV 2010: objects, threads and claims are all named by references. Own: a type number and a serial.
use Rattle.std.specs.Prelude.{ℕ, Bool, not, ◌&&◌, ◌||◌, ◌==◌, nat_lt}
use Rattle.object_types.specs.declared.references.Ref.{Ref}

abbrev pub ref : ℕ → ℕ → Ref
ref ty serial = record { ty = ty; serial = serial }

abbrev pub null : Ref
null = ref 0 0

-- of the type number 0 there is NULL alone
abbrev pub is_reference : Ref → Bool
is_reference r = not (r.ty == 0) || (r.serial == 0)

-- the reference of thread t
abbrev pub thread : ℕ → Ref
thread t = ref 1 t

unfoldable pub same_ref : Ref → Ref → Bool
same_ref a b = (a.ty == b.ty) && (a.serial == b.serial)

-- reference order: by type, then by serial
abbrev pub ref_lt : Ref → Ref → Bool
ref_lt a b = nat_lt a.ty b.ty || ((a.ty == b.ty) && nat_lt a.serial b.serial)

abbrev pub is_null : Ref → Bool
is_null r = same_ref r null

abbrev pub is_thread : Ref → Bool
is_thread r = r.ty == 1

abbrev pub is_claim : Ref → Bool
is_claim r = r.ty == 2
