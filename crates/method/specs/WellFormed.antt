-- What every heap of a program is, and what every step keeps, whatever the invariants say. From CAV 2010: threads and closed objects own objects, a closed object keeps what is not volatile. Own: the exact conditions, for owned sets, claims and their counts.
use Rattle.std.specs.Prelude.{◌≡◌, ℕ, Bool, true, false, ◌&&◌, ◌||◌, pos, List, [], ◌∷◌, map, length, Option, Some, None, slice_get, IsTrue, IsFalse}
use Rattle.object_types.specs.declared.references.Ref.{Ref}
use Rattle.object_types.specs.declared.values.Value.{Value}
use Rattle.object_types.specs.declared.values.Value.TheVariants.{Int, Ref as Refers}
use Rattle.method.specs.declared.program.Sort.{Sort}
use Rattle.method.specs.declared.program.Sort.TheVariants.{IntSort, RefSort}
use Rattle.method.specs.declared.program.Shape.{Shape}
use Rattle.method.specs.declared.program.Claimed.{Claimed}
use Rattle.method.specs.declared.program.Claimed.TheVariants.{ClaimedVariable, ClaimedNull, ClaimedOther}
use Rattle.method.specs.declared.program.ClaimSite.{ClaimSite}
use Rattle.method.specs.declared.program.FunctionInfo.{FunctionInfo}
use Rattle.method.specs.declared.program.Program.{Program}
use Rattle.object_types.specs.declared.records.Mode.TheVariants.{Absent, Open, Freed}
use Rattle.object_types.specs.declared.shapes.Entry.{Entry}
use Rattle.object_types.specs.References.{null, is_claim, is_reference, is_thread, same_ref, ref_lt}
use Rattle.object_types.specs.Values.{referent, kept}
use Rattle.object_types.specs.Sets.{is_in, is_ordered, every, all_distinct, set_of}
use Rattle.object_types.specs.Shapes.{entry_lt, entries_of}
use Rattle.object_types.specs.Heap.{Heap, Record, nothing, empty_heap, closed_in, IsClosedIn}
use Rattle.method.specs.Tables.{local, in_type, type_of_field, type_of_variable, read, is_volatile, is_approved, is_field_of, has_volatile_owns, is_claimable, sort_of_type}
use Rattle.method.specs.SpecValue.{Scene, entry_of}

-- every reference in the value is one
abbrev pub is_value : Value → Bool
is_value (Int z) = true
is_value (Refers r) = is_reference r

-- the value is an integer, or a reference
abbrev pub has_sort : Sort → Value → Bool
has_sort IntSort (Int z) = true
has_sort IntSort (Refers r) = false
has_sort RefSort (Int z) = false
has_sort RefSort (Refers r) = is_reference r

abbrev pub have_sorts : List Sort → List Value → Bool
have_sorts [] [] = true
have_sorts [] (v ∷ vs) = false
have_sorts (s ∷ ss) [] = false
have_sorts (s ∷ ss) (v ∷ vs) = has_sort s v && have_sorts ss vs

abbrev pub is_entry : Option Shape → List Value → Bool
is_entry None vs = false
is_entry (Some sh) vs = have_sorts sh.holes.items vs

-- A heap of the program: finitely many records, its sets in order, at each reference only what belongs to its type, in each field an integer or a reference as its type says, and of the type number 0 NULL alone.
pub record IsHeapOf (p : Program) (h : Heap) : Type 0 where
  pub finite : (o : Ref) → IsFalse (is_in o h.support) → h.get o ≡ nothing
  pub owned_ordered : (o : Ref) → IsTrue (is_ordered ref_lt (h.get o).owned)
  pub listed_ordered : (o : Ref) → IsTrue (is_ordered ref_lt (h.get o).listed)
  pub shapes_ordered : (o : Ref) → IsTrue (is_ordered entry_lt (h.get o).shapes)
  pub entries : (o : Ref) → IsTrue (every (λ e. is_entry (slice_get p.shapes.items e.shape) e.values) (h.get o).shapes)
  pub own_fields : (o : Ref) (f : ℕ) → IsFalse (is_field_of p f o.ty) → (h.get o).fields f ≡ None
  pub kept_fields : (o : Ref) (f : ℕ) (v : Value) → (h.get o).fields f ≡ Some v → kept v ≡ Some v
  pub nowhere_else : (o : Ref) → IsFalse (is_reference o) → h.get o ≡ nothing
  pub owners : (o : Ref) → IsTrue (is_reference (h.get o).owner)
  pub owned_are : (o : Ref) → IsTrue (every is_reference (h.get o).owned)
  pub listed_are : (o : Ref) → IsTrue (every is_reference (h.get o).listed)
  pub values_are : (o : Ref) (f : ℕ) (v : Value) → (h.get o).fields f ≡ Some v → IsTrue (has_sort (sort_of_type (type_of_field p f)) v)
  pub claims_list : (o : Ref) → IsFalse (is_claim o) → ((h.get o).listed ≡ []) × ((h.get o).shapes ≡ [])

-- exactly n references pass
pub record IsCount (passes : Ref → Bool) (n : ℕ) : Type 0 where
  pub which : List Ref
  pub each : (r : Ref) → is_in r which ≡ passes r
  pub distinct : IsTrue (all_distinct which)
  pub many : length which ≡ n

-- c is a closed claim that lists o
abbrev pub claims_now : Heap → Ref → Ref → Bool
claims_now h o c = is_claim c && (closed_in h c && is_in o (h.get c).listed)

-- a claimed expression of a site may have this value, the variables having these
abbrev pub may_claim : Claimed → List Value → Ref → Bool
may_claim (ClaimedVariable i) l r = same_ref r (referent (local l i))
may_claim ClaimedNull l r = same_ref r null
may_claim (ClaimedOther e ty) l r = in_type ty (Refers r)

abbrev pub may_claim_all : List Claimed → List Value → List Ref → Bool
may_claim_all [] l [] = true
may_claim_all [] l (r ∷ rs) = false
may_claim_all (c ∷ cs) l [] = false
may_claim_all (c ∷ cs) l (r ∷ rs) = may_claim c l r && may_claim_all cs l rs

abbrev pub types_hold : Option FunctionInfo → List ℕ → List Value → Bool
types_hold None is l = false
types_hold (Some f) is l = every (λ i. in_type (type_of_variable f i) (local l i)) is

-- values of a claim site's variables and claimed expressions, in their ranges; \me is a thread
pub record SiteValues (p : Program) (site : ClaimSite) (me : Ref) (l : List Value) (objects : List Ref) : Type 0 where
  pub me_thread : IsTrue (is_thread me)
  pub variables : IsTrue (types_hold (slice_get p.functions.items site.function) site.variables.items l)
  pub claimed : IsTrue (may_claim_all site.claimed.items l objects)

abbrev pub site_scene : Ref → List Value → Scene
site_scene me l = record { before = empty_heap; after = empty_heap; me = me; this = null; locals = l; entry = []; result = Int (pos 0); bound = []; subject = null }

-- the conjuncts of a site, with the values of its variables
abbrev pub site_entries : ClaimSite → Ref → List Value → List Entry
site_entries site me l = map (entry_of (site_scene me l)) site.conjuncts.items

-- some \make_claim makes a claim with this record, whoever owns it
pub record IsMade (p : Program) (r : Record) : Type 0 where
  pub number : ℕ
  pub site : ClaimSite
  pub me : Ref
  pub locals : List Value
  pub objects : List Ref
  pub is : slice_get p.sites.items number ≡ Some site
  pub values : SiteValues p site me locals objects
  pub count : r.count ≡ pos 0
  pub owned : r.owned ≡ []
  pub listed : r.listed ≡ set_of objects
  pub shapes : r.shapes ≡ entries_of (site_entries site me locals)

-- What holds of each heap whatever its invariants say.
pub record WellFormed (p : Program) (h : Heap) : Type 0 where
  pub heap_of : IsHeapOf p h
  pub fields : (o : Ref) (f : ℕ) → IsTrue (is_field_of p f o.ty) → IsTrue (in_type (type_of_field p f) (read p h o f))
  pub no_null : (h.get null).mode ≡ Absent
  pub no_threads : (o : Ref) → IsTrue (is_thread o) → (h.get o).mode ≡ Absent
  pub absent : (o : Ref) → (h.get o).mode ≡ Absent → h.get o ≡ nothing
  pub opened : (o : Ref) → (h.get o).mode ≡ Open → IsTrue (is_thread (h.get o).owner) × ((h.get o).count ≡ pos 0)
  pub freed : (o : Ref) → (h.get o).mode ≡ Freed → ((h.get o).owner ≡ null) × ((h.get o).count ≡ pos 0)
  pub owner : (o : Ref) → IsClosedIn h o → IsTrue (is_thread (h.get o).owner || (closed_in h (h.get o).owner && is_in o (h.get (h.get o).owner).owned))
  pub member : (o q : Ref) → IsClosedIn h o → IsTrue (is_in q (h.get o).owned) → IsClosedIn h q × ((h.get q).owner ≡ o)
  pub count : (o : Ref) → (n : ℕ) × ((h.get o).count ≡ pos n) × IsCount (claims_now h o) n
  pub listed : (c o : Ref) → IsTrue (claims_now h o c) → IsClosedIn h o × IsTrue (is_claimable p o.ty)
  pub made : (c : Ref) → IsTrue (is_claim c) → IsClosedIn h c → IsMade p (h.get c)

-- The approved fields of a record are the same in another: what an owner may count on.
pub record KeepsApproved (p : Program) (r s : Record) : Type 0 where
  pub fields : (f : ℕ) → IsTrue (is_approved p f) → s.fields f ≡ r.fields f

-- The non-volatile content of o is the same: fields without volatile, the owned set of a type without volatile_owns, all of a claim.
pub record IsFixed (p : Program) (o : Ref) (h k : Heap) : Type 0 where
  pub fields : (f : ℕ) → IsFalse (is_volatile p f) → (k.get o).fields f ≡ (h.get o).fields f
  pub owned : IsFalse (has_volatile_owns p o.ty) → (k.get o).owned ≡ (h.get o).owned
  pub listed : (k.get o).listed ≡ (h.get o).listed
  pub shapes : (k.get o).shapes ≡ (h.get o).shapes

-- What holds of each step: a heap of the program before, a well-formed one afterwards, and what stays closed keeps its non-volatile content.
pub record WellFormedStep (p : Program) (h0 h1 : Heap) : Type 0 where
  pub before : IsHeapOf p h0
  pub after : WellFormed p h1
  pub fixed : (o : Ref) → IsClosedIn h0 o → IsClosedIn h1 o → IsFixed p o h0 h1
