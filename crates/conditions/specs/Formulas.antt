-- Formulas over integers, references and heaps, by the names that texts on the method give them. From VCC and CAV 2010: annotations and checks become formulas of first-order logic over heaps. Own: a heap is read by columns, which hold an object's status, its content, and of a claim what it claims.
use Rattle.std.specs.Prelude.{ℕ, ◌+◌, ◌==◌, Bool, true, false, ◌&&◌, ◌||◌, if◌then◌else◌, ℤ, pos, negsuc, List, [], ◌∷◌, ◌++◌, map, length}
use Rattle.object_types.specs.Values.{same_int}
use Rattle.terms.specs.declared.term.Kind.{Kind}
use Rattle.terms.specs.declared.term.Kind.TheVariants as k
use Rattle.terms.specs.Formula.{Formula, Formulas, Node, Stop, With, leaf, unary, binary}
use Rattle.method.specs.declared.program.Program.{Program}

-- formulas as the children of one
abbrev pub row : List Formula → Formulas
row [] = Stop
row (f ∷ fs) = With f (row fs)

-- a formula of a kind, without an index
abbrev pub node : Kind → List Formula → Formula
node kind fs = Node kind (pos 0) (row fs)

-- an integer literal
abbrev pub int : ℤ → Formula
int z = leaf k.Int z

abbrev pub nat : ℕ → Formula
nat n = int (pos n)

-- NULL
abbrev pub null : Formula
null = leaf k.Null (pos 0)

-- the thread whose code it is
abbrev pub me : Formula
me = leaf k.Me (pos 0)

-- constants, by their numbers
abbrev pub integer : ℕ → Formula
integer n = leaf k.Ci (pos n)

abbrev pub reference : ℕ → Formula
reference n = leaf k.Cr (pos n)

abbrev pub heap : ℕ → Formula
heap n = leaf k.Ch (pos n)

-- the formula that always holds
abbrev pub true_formula : Formula
true_formula = leaf k.True (pos 0)

abbrev pub not' : Formula → Formula
not' = unary k.Not

abbrev pub and' : Formula → Formula → Formula
and' = binary k.And

abbrev pub or' : Formula → Formula → Formula
or' = binary k.Or

abbrev pub imp : Formula → Formula → Formula
imp = binary k.Imp

abbrev pub eq : Formula → Formula → Formula
eq = binary k.Eq

abbrev pub le : Formula → Formula → Formula
le = binary k.Le

abbrev pub ite : Formula → Formula → Formula → Formula
ite b x y = node k.Ite (b ∷ x ∷ y ∷ [])

-- the type number of a reference
abbrev pub typ : Formula → Formula
typ = unary k.Typ

-- the formula that never holds
abbrev pub false_formula : Formula
false_formula = not' true_formula

-- joined by `and`, and by `or`, grouped to the right
abbrev pub all_of : List Formula → Formula
all_of [] = true_formula
all_of (f ∷ []) = f
all_of (f ∷ g ∷ gs) = and' f (all_of (g ∷ gs))

abbrev pub any_of : List Formula → Formula
any_of [] = false_formula
any_of (f ∷ []) = f
any_of (f ∷ g ∷ gs) = or' f (any_of (g ∷ gs))

-- x is one of these
abbrev pub is_any : Formula → List Formula → List Formula
is_any x = map (eq x)

-- Columns.

-- 0 absent, 1 open, 2 closed, 3 freed
abbrev pub mode_column : ℕ
mode_column = 0

abbrev pub owner_column : ℕ
owner_column = 1

abbrev pub count_column : ℕ
count_column = 2

-- whether the second key is in the owned set of the first
abbrev pub owned_column : ℕ
owned_column = 3

-- whether the claim lists the object
abbrev pub listed_column : ℕ
listed_column = 4

-- the values of field number f
abbrev pub field_column : ℕ → ℕ
field_column f = 5 + f

-- whether a claim has a conjunct of this shape, with these values
abbrev pub shape_column : Program → ℕ → ℕ
shape_column p s = 5 + length p.fields.items + s

-- what column c of the heap h has at these keys
abbrev pub get : ℕ → Formula → List Formula → Formula
get c h keys = Node k.Get (pos c) (With h (row keys))

-- the heap h with v there
abbrev pub set : ℕ → Formula → List Formula → Formula → Formula
set c h keys v = Node k.Set (pos c) (With h (row (keys ++ v ∷ [])))

-- the mode of o
abbrev pub mode : Formula → Formula → Formula
mode h o = get mode_column h (o ∷ [])

-- the owner of o
abbrev pub owner : Formula → Formula → Formula
owner h o = get owner_column h (o ∷ [])

-- how many claims list o
abbrev pub count : Formula → Formula → Formula
count h o = get count_column h (o ∷ [])

-- q is in the owned set of o
abbrev pub owns : Formula → Formula → Formula → Formula
owns h o q = eq (get owned_column h (o ∷ q ∷ [])) (nat 1)

-- the claim c lists o
abbrev pub lists : Formula → Formula → Formula → Formula
lists h c o = eq (get listed_column h (c ∷ o ∷ [])) (nat 1)

-- the claim c was made with a conjunct of this shape and these values
abbrev pub has_shape : Program → Formula → Formula → ℕ → List Formula → Formula
has_shape p h c s values = eq (get (shape_column p s) h (c ∷ values)) (nat 1)

-- o is closed
abbrev pub closed : Formula → Formula → Formula
closed h o = eq (mode h o) (nat 2)

-- \mutable and \wrapped, with t for \me
abbrev pub mutable : Formula → Formula → Formula → Formula
mutable t h o = and' (eq (mode h o) (nat 1)) (eq (owner h o) t)

abbrev pub wrapped : Formula → Formula → Formula → Formula
wrapped t h o = and' (closed h o) (eq (owner h o) t)

-- o is in the writes list w, or t didn't own it at the entry e
abbrev pub writable : Formula → Formula → List Formula → Formula → Formula
writable t e w o = any_of (is_any o w ++ not' (eq (owner e o) t) ∷ [])

-- the heap h where o has the mode m and the owner t
abbrev pub status : Formula → Formula → Formula → Formula → Formula
status h o m t = set owner_column (set mode_column h (o ∷ []) m) (o ∷ []) t

-- Equal trees.

abbrev pub kind_number : Kind → ℕ
kind_number k.Int = 0
kind_number k.Ci = 1
kind_number k.Add = 2
kind_number k.Sub = 3
kind_number k.Mul = 4
kind_number k.Div = 5
kind_number k.Mod = 6
kind_number k.Typ = 7
kind_number k.Get = 8
kind_number k.Ite = 9
kind_number k.Null = 10
kind_number k.Me = 11
kind_number k.Cr = 12
kind_number k.Cex = 13
kind_number k.Ch = 14
kind_number k.Set = 15
kind_number k.Open = 16
kind_number k.Close = 17
kind_number k.Clear = 18
kind_number k.True = 19
kind_number k.Not = 20
kind_number k.And = 21
kind_number k.Or = 22
kind_number k.Imp = 23
kind_number k.Eq = 24
kind_number k.Le = 25
kind_number k.All = 26
kind_number k.Good = 27
kind_number k.Sys = 28
kind_number k.Inv = 29
kind_number k.Legal = 30
kind_number k.Kept = 31
kind_number k.Touched = 32
kind_number k.Rely = 33
kind_number k.Frame = 34
kind_number k.Stab = 35
kind_number k.Idle = 36

abbrev pub same_kind : Kind → Kind → Bool
same_kind a b = kind_number a == kind_number b

abbrev mutual
  pub same : Formula → Formula → Bool
  same (Node a n fs) (Node b m gs) = same_kind a b && (same_int n m && same_all fs gs)

  -- equal lists of trees
  pub same_all : Formulas → Formulas → Bool
  same_all Stop Stop = true
  same_all Stop (With g gs) = false
  same_all (With f fs) Stop = false
  same_all (With f fs) (With g gs) = same f g && same_all fs gs

-- the kind of a constant: integer, reference or heap
abbrev pub is_constant : Kind → Bool
is_constant kind = same_kind kind k.Ci || (same_kind kind k.Cr || same_kind kind k.Ch)

-- the number is in the list
abbrev pub is_number : ℕ → List ℕ → Bool
is_number n [] = false
is_number n (m ∷ ms) = (n == m) || is_number n ms

-- the list with the number, once
abbrev pub with_number : ℤ → List ℕ → List ℕ
with_number (negsuc n) found = found
with_number (pos n) found = if is_number n found then found else found ++ n ∷ []

abbrev mutual
  -- the numbers of the constants of a formula, each once, in the order in which they first stand
  pub constants : Formula → List ℕ → List ℕ
  constants (Node kind n fs) found = if is_constant kind then with_number n found else all_constants fs found

  pub all_constants : Formulas → List ℕ → List ℕ
  all_constants Stop found = found
  all_constants (With f fs) found = all_constants fs (constants f found)
