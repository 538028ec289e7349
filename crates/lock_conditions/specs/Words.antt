-- The words in which the conditions are written down here. Own. They say again what the words of an annotation and of a check are as formulas, apart from the definitions of `conditions`; only the kinds of terms have their names from there.
use Rattle.std.specs.Prelude.{ℕ, negsuc, List, [], ◌∷◌}
use Rattle.terms.specs.declared.term.Kind.TheVariants as k
use Rattle.terms.specs.Formula.{Formula}
use Rattle.conditions.specs.Formulas.{node, int, nat, null, me, not', and', or', imp, eq, le, typ, get}

-- f1 & (f2 & ..), grouped to the right
abbrev pub conjunction : List Formula → Formula
conjunction [] = node k.True []
conjunction (f ∷ []) = f
conjunction (f ∷ g ∷ gs) = and' f (conjunction (g ∷ gs))

-- the condition of a check c where these facts are known
abbrev pub condition : List Formula → Formula → Formula
condition facts c = imp (conjunction facts) c

-- The columns of the lock program: 0 to 4 those of every program, 5 v, 6 locked, 7 protected_obj, 8 the claims' conjunct \true.
abbrev pub mode : Formula → Formula → Formula
mode h o = get 0 h (o ∷ [])

abbrev pub owner : Formula → Formula → Formula
owner h o = get 1 h (o ∷ [])

abbrev pub count : Formula → Formula → Formula
count h o = get 2 h (o ∷ [])

-- q is a member of o's owned set
abbrev pub owns : Formula → Formula → Formula → Formula
owns h o q = eq (get 3 h (o ∷ q ∷ [])) (nat 1)

-- the claim c lists o
abbrev pub lists : Formula → Formula → Formula → Formula
lists h c o = eq (get 4 h (c ∷ o ∷ [])) (nat 1)

abbrev pub locked : Formula → Formula → Formula
locked h l = get 6 h (l ∷ [])

abbrev pub protected_obj : Formula → Formula → Formula
protected_obj h l = get 7 h (l ∷ [])

-- o is closed; t owns o
abbrev pub closed : Formula → Formula → Formula
closed h o = eq (mode h o) (nat 2)

abbrev pub owned_by : Formula → Formula → Formula → Formula
owned_by t h o = eq (owner h o) t

-- \mutable(o) and \wrapped(o)
abbrev pub mutable : Formula → Formula → Formula
mutable h o = and' (eq (mode h o) (nat 1)) (owned_by me h o)

abbrev pub wrapped : Formula → Formula → Formula
wrapped h o = and' (closed h o) (owned_by me h o)

-- c is wrapped and lists o
abbrev pub claims_object : Formula → Formula → Formula → Formula
claims_object h c o = and' (wrapped h c) (lists h c o)

-- \fresh(o): `\me` didn't own o in the heap at entry, e
abbrev pub fresh : Formula → Formula → Formula
fresh e o = not' (owned_by me e o)

-- what a parameter or a new value of its type is known to be
abbrev pub is_int : Formula → List Formula
is_int x = le (int (negsuc 2147483647)) x ∷ le x (nat 2147483647) ∷ []

abbrev pub is_pointer : ℕ → Formula → Formula
is_pointer ty r = or' (eq r null) (eq (typ r) (nat ty))

abbrev pub is_object : Formula → Formula
is_object r = not' (eq (typ r) (nat 1))

abbrev pub is_claim : Formula → Formula
is_claim r = is_pointer 2 r

-- Relations of heaps.
abbrev pub good : Formula → Formula
good h = node k.Good (h ∷ [])

-- other threads went from h to h'
abbrev pub rely : Formula → Formula → Formula
rely h h' = node k.Rely (me ∷ h ∷ h' ∷ [])

-- all went from h to h', and this code wrote no more than w and what `\me` didn't own in e
abbrev pub frame : Formula → Formula → Formula → List Formula → Formula
frame h h' e w = node k.Frame (me ∷ h ∷ h' ∷ e ∷ w)

-- o is in what `\me` can count on in h
abbrev pub stable : Formula → Formula → Formula
stable h o = node k.Stab (me ∷ h ∷ o ∷ h ∷ [])

-- the invariant of o over a step
abbrev pub inv : Formula → Formula → Formula → Formula
inv o h h' = node k.Inv (o ∷ h ∷ h' ∷ [])
