-- The source of `gen N`: N copies of a program with a lock and its workers, and of a counter. Own.
use Rattle.std.specs.Prelude.{ℕ, zero, suc, ◌==◌, if◌then◌else◌, List, [], ◌∷◌, ◌++◌, flat_map, codes, decimal}

-- The lines of one copy; its number stands in place of each `@`.
unfoldable pub copy_lines : List (List ℕ)
copy_lines =
    codes "struct Data@ {" ∷
    codes "  int v;" ∷
    codes "  _(invariant v >= 0)" ∷
    codes "};" ∷
    codes "_(claimable, volatile_owns) struct Lock@ {" ∷
    codes "  volatile int locked;" ∷
    codes "  _(ghost \\object protected_obj;)" ∷
    codes "  _(invariant locked == 0 ==> \\mine(protected_obj))" ∷
    codes "};" ∷
    codes "void InitializeLock@(struct Lock@ *l _(ghost \\object obj))" ∷
    codes "  _(writes \\span(l), obj)" ∷
    codes "  _(requires \\wrapped(obj))" ∷
    codes "  _(ensures \\wrapped(l) && l->protected_obj == obj)" ∷
    codes "{" ∷
    codes "  l->locked = 0;" ∷
    codes "  _(ghost l->protected_obj = obj;)" ∷
    codes "  _(ghost l->\\owns = {obj};)" ∷
    codes "  _(wrap l)" ∷
    codes "}" ∷
    codes "void Acquire@(struct Lock@ *l _(ghost \\claim c))" ∷
    codes "  _(maintains \\wrapped(c) && \\claims_object(c, l))" ∷
    codes "  _(ensures \\wrapped(l->protected_obj) && \\fresh(l->protected_obj))" ∷
    codes "{" ∷
    codes "  int stop = 0;" ∷
    codes "  do {" ∷
    codes "    _(atomic c, l) {" ∷
    codes "      stop = InterlockedCompareExchange(&l->locked, 1, 0) == 0;" ∷
    codes "      _(ghost if (stop) l->\\owns -= l->protected_obj;)" ∷
    codes "    }" ∷
    codes "  } while (!stop);" ∷
    codes "}" ∷
    codes "void Release@(struct Lock@ *l _(ghost \\claim c))" ∷
    codes "  _(requires l->protected_obj != c)" ∷
    codes "  _(maintains \\wrapped(c) && \\claims_object(c, l))" ∷
    codes "  _(requires \\wrapped(l->protected_obj))" ∷
    codes "  _(writes l->protected_obj)" ∷
    codes "{" ∷
    codes "  _(atomic c, l) {" ∷
    codes "    l->locked = 0;" ∷
    codes "    _(ghost l->\\owns += l->protected_obj;)" ∷
    codes "  }" ∷
    codes "}" ∷
    codes "void Worker@(struct Lock@ *l, struct Data@ *d _(ghost \\claim c))" ∷
    codes "  _(requires \\wrapped(c) && \\claims_object(c, l) && l->protected_obj == d)" ∷
    codes "  _(writes c)" ∷
    codes "{" ∷
    codes "  Acquire@(l _(ghost c));" ∷
    codes "  _(unwrap d)" ∷
    codes "  d->v = 1;" ∷
    codes "  _(wrap d)" ∷
    codes "  Release@(l _(ghost c));" ∷
    codes "}" ∷
    codes "_(claimable) struct Ctr@ { volatile int n; _(invariant \\old(n) <= n) };" ∷
    codes "void Bump@(struct Ctr@ *p _(ghost \\claim c))" ∷
    codes "  _(maintains \\wrapped(c) && \\claims_object(c, p))" ∷
    codes "{" ∷
    codes "  int v = 0;" ∷
    codes "  int r = 0;" ∷
    codes "  _(atomic c, p) { v = p->n; }" ∷
    codes "  if (v < 2147483647) {" ∷
    codes "    _(atomic c, p) { r = InterlockedCompareExchange(&p->n, v + 1, v); }" ∷
    codes "  }" ∷
    codes "}" ∷
    []

-- the lines, each with its end
unfoldable pub copy_text : List ℕ
copy_text = flat_map (λ line. line ++ 10 ∷ []) copy_lines

-- a byte of the copy with this number: the number, in decimal, in place of `@`
abbrev pub byte_of : ℕ → ℕ → List ℕ
byte_of n byte = if byte == 64 then decimal n else byte ∷ []

-- bytes of the copy with this number
abbrev pub bytes_of : ℕ → List ℕ → List ℕ
bytes_of n = flat_map (byte_of n)

-- the copy with this number
abbrev pub copy : ℕ → List ℕ
copy n = bytes_of n copy_text

-- the copies from 1 on, so many
abbrev pub copies : ℕ → List ℕ
copies zero = []
copies (suc n) = copies n ++ copy (suc n)

-- a line for the words of the language, the copies, and a main that does nothing
abbrev pub generated : ℕ → List ℕ
generated n = codes "#include <vcc.h>\n" ++ (copies n ++ codes "void main() {}\n")
