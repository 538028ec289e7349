-- The formulas that axioms are made of, and clean heaps. From many-sorted first-order logic; the atoms are the relations of the method. Own: clean heaps.
use Rattle.std.specs.Prelude.{ℕ, Bool, true, false, ◌&&◌, ℤ, pos, int_le, List, [], ◌∷◌, map, Option, Some, None}
use Rattle.int_ranges.specs.Ranges.{least_of, greatest_of}
use Rattle.method.specs.declared.program.Program.{Program}
use Rattle.method.specs.declared.program.DeclaredType.{DeclaredType}
use Rattle.method.specs.declared.program.DeclaredType.TheVariants.{Integer, Pointer, Object, Claim}
use Rattle.terms.specs.declared.term.Kind.{Kind}
use Rattle.terms.specs.declared.term.Kind.TheVariants as k
use Rattle.terms.specs.Formula.{Formula, Formulas, Node, Stop, With, leaf, unary, binary}
use Rattle.term_meaning.specs.Columns.{Column, Modes, OwnedSets, ClaimedSets, Shape}
use Rattle.term_meaning.specs.Meaning.{column_at}
pub use Rattle.term_meaning.specs.Filling.{trees}

-- a term of this kind with any number of arguments
abbrev pub apply : Kind → List Formula → Formula
apply k fs = Node k (pos 0) (trees fs)

-- a numeral, and NULL
abbrev pub num : ℤ → Formula
num n = leaf k.Int n

abbrev pub null : Formula
null = leaf k.Null (pos 0)

-- The connectives, and the two relations of values.
abbrev pub no : Formula → Formula
no a = unary k.Not a

abbrev pub both : Formula → Formula → Formula
both a b = binary k.And a b

abbrev pub either : Formula → Formula → Formula
either a b = binary k.Or a b

abbrev pub imp : Formula → Formula → Formula
imp a b = binary k.Imp a b

abbrev pub eq : Formula → Formula → Formula
eq a b = binary k.Eq a b

abbrev pub le : Formula → Formula → Formula
le a b = binary k.Le a b

-- a conjunction, grouped to the right
abbrev pub all_of : List Formula → Formula
all_of [] = leaf k.True (pos 0)
all_of (f ∷ []) = f
all_of (f ∷ g ∷ fs) = both f (all_of (g ∷ fs))

-- the type number of a reference
abbrev pub typ : Formula → Formula
typ r = unary k.Typ r

-- what the column with this number holds of r at these further keys
abbrev pub get : ℕ → Formula → Formula → List Formula → Formula
get n h r ks = Node k.Get (pos n) (With h (With r (trees ks)))

-- The first five columns by their names.
abbrev pub mode : Formula → Formula → Formula
mode h r = get 0 h r []

abbrev pub owner : Formula → Formula → Formula
owner h r = get 1 h r []

abbrev pub count : Formula → Formula → Formula
count h r = get 2 h r []

abbrev pub owns : Formula → Formula → Formula → Formula
owns h r q = get 3 h r (q ∷ [])

abbrev pub lists : Formula → Formula → Formula → Formula
lists h c q = get 4 h c (q ∷ [])

-- r is open, r is closed, r is owned by t
abbrev pub is_open : Formula → Formula → Formula
is_open h r = eq (mode h r) (num (pos 1))

abbrev pub is_closed : Formula → Formula → Formula
is_closed h r = eq (mode h r) (num (pos 2))

abbrev pub owned_by : Formula → Formula → Formula → Formula
owned_by h r t = eq (owner h r) t

-- the column with this number holds the same of r in k as in h
abbrev pub same : ℕ → List Formula → Formula → Formula → Formula → Formula
same n ks h k r = eq (get n k r ks) (get n h r ks)

-- x is a value of the declared type
abbrev pub range_facts : DeclaredType → Formula → Formula
range_facts (Integer c) x = both (le (num (least_of c)) x) (le x (num (greatest_of c)))
range_facts (Pointer n) x = either (eq x null) (eq (typ x) (num (pos n)))
range_facts Object x = no (eq (typ x) (num (pos 1)))
range_facts Claim x = either (eq x null) (eq (typ x) (num (pos 2)))

-- t owns r in h, owned it at the entry heap e, and r is none of the writes list w: so t's function may not write it
abbrev pub unwritable : Formula → Formula → Formula → Formula → List Formula → List Formula
unwritable t h r e w = owned_by h r t ∷ owned_by e r t ∷ map (λ x. no (eq r x)) w

-- The relations of the method, one kind of term each.
abbrev pub good : Formula → Formula
good h = unary k.Good h

abbrev pub sys : Formula → Formula
sys h = unary k.Sys h

abbrev pub inv : Formula → Formula → Formula → Formula
inv o x y = apply k.Inv (o ∷ x ∷ y ∷ [])

abbrev pub legal : Formula → Formula → Formula
legal x y = binary k.Legal x y

abbrev pub kept : Formula → Formula → Formula
kept x y = binary k.Kept x y

abbrev pub touched : Formula → Formula → Formula → Formula
touched o x y = apply k.Touched (o ∷ x ∷ y ∷ [])

abbrev pub rely : Formula → Formula → Formula → Formula
rely t x y = apply k.Rely (t ∷ x ∷ y ∷ [])

abbrev pub frame : Formula → Formula → Formula → Formula → List Formula → Formula
frame t x y e w = apply k.Frame (t ∷ x ∷ y ∷ e ∷ w)

abbrev pub stab : Formula → Formula → Formula → Formula → List Formula → Formula
stab t h o e w = apply k.Stab (t ∷ h ∷ o ∷ e ∷ w)

abbrev pub idle : Formula → Formula → Formula
idle u h = binary k.Idle u h

-- the heap with the owned set of o empty
abbrev pub clear : Formula → Formula → Formula
clear h o = binary k.Clear h o

-- Clean heap terms: made of constants by storing numerals from 0 to 3 as modes, 0 and 1 in sets and shapes, and anything elsewhere. So modes are 0 to 3 in them, and memberships 0 or 1.

-- a term's kind, index and arguments
abbrev pub kind_of : Formula → Kind
kind_of (Node k n fs) = k

abbrev pub index_of : Formula → ℤ
index_of (Node k n fs) = n

abbrev pub arguments_of : Formula → Formulas
arguments_of (Node k n fs) = fs

-- the kind of numerals
abbrev pub is_int : Kind → Bool
is_int k.Int = true
is_int _ = false

-- a numeral from 0 to the greatest
abbrev pub is_numeral_to : ℤ → Formula → Bool
is_numeral_to greatest f = is_int (kind_of f) && (int_le (pos 0) (index_of f) && int_le (index_of f) greatest)

-- the last argument passes the test
abbrev pub last_is : (Formula → Bool) → Formulas → Bool
last_is test Stop = false
last_is test (With f Stop) = test f
last_is test (With f (With g fs)) = last_is test (With g fs)

-- the greatest value of a column that has few
abbrev pub limit_of : Column → Option ℤ
limit_of Modes = Some (pos 3)
limit_of OwnedSets = Some (pos 1)
limit_of ClaimedSets = Some (pos 1)
limit_of (Shape n) = Some (pos 1)
limit_of _ = None

-- a numeral up to the greatest, if there is one
abbrev pub is_within : Option ℤ → Formula → Bool
is_within None f = true
is_within (Some greatest) f = is_numeral_to greatest f

-- a value that a clean heap term may store in the column
abbrev pub stores_cleanly : Option Column → Formula → Bool
stores_cleanly None f = false
stores_cleanly (Some c) f = is_within (limit_of c) f

-- a column that holds 0 or 1 alone
abbrev pub is_set_column : Option Column → Bool
is_set_column (Some OwnedSets) = true
is_set_column (Some ClaimedSets) = true
is_set_column (Some (Shape n)) = true
is_set_column _ = false

module _ (p : Program) where
  abbrev mutual
    -- a clean heap term
    pub is_clean : Formula → Bool
    is_clean (Node k.Ch n fs) = true
    is_clean (Node k.Set n fs) = last_is (stores_cleanly (column_at p n)) fs && first_clean fs
    is_clean (Node k.Open n fs) = first_clean fs
    is_clean (Node k.Close n fs) = first_clean fs
    is_clean (Node k.Clear n fs) = first_clean fs
    is_clean (Node k n fs) = false

    -- the first argument is a clean heap term
    pub first_clean : Formulas → Bool
    first_clean Stop = false
    first_clean (With f fs) = is_clean f

  -- a read of a set or a shape, of a clean heap
  abbrev pub is_clean_read : Formula → Bool
  is_clean_read (Node k.Get n fs) = is_set_column (column_at p n) && first_clean fs
  is_clean_read (Node k n fs) = false
