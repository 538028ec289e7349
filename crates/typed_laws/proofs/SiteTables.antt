-- The table of claim sites: each entry is that of a claim which a function makes.
use Rattle.std.specs.Prelude.{ℕ, suc, ◌+◌, List, [], ◌∷◌, length, map, Some, slice_get}
use Rattle.std.proofs.Common.{◌≡◌, refl, sym, ap, subst, ◌∙◌, inl, inr, arith}
use Rattle.std.proofs.lemmas.Option.{none-some}
use Rattle.std.proofs.lemmas.List.{length-map}
use Rattle.c_syntax.specs.Items as i
use Rattle.c_syntax.specs.Items.{FunctionTree, Item}
use Rattle.typing_spec.specs.Declarations.{functions}
use Rattle.typed_program.specs.Trees.{ClaimSite, Shape}
use Rattle.typed_program.specs.Statements.{in_statements}
use Rattle.typed_program.specs.Sites.{Site}
use Rattle.typed_program.specs.Tables.{around_function, function_sorts, sites_told, function_occurrences, claim_site, site_table, shapes}
use Rattle.typed_laws.proofs.Basics.{contained}
use Rattle.typed_laws.proofs.Facts.{SiteOf, claims_before, told_in}
use Rattle.typed_laws.proofs.Goals.{SitesLaw}
use Rattle.typed_laws.proofs.TableLists.{mapped, in_two}
use Rattle.typed_laws.proofs.TableSites.{statements_sited, function_sites}
use Rattle.typed_laws.proofs.FunctionTables.{Made, function_made}

-- which claim of which function an entry is from, where the first function has number f
record Source (l : List Shape) (items : List Item) (f : ℕ) (more : List Item) (n : ℕ) (site : ClaimSite) : Type 0 where
  place : ℕ
  tree : FunctionTree
  there : slice_get (functions more) place ≡ Some tree
  made : Site
  index : ℕ
  told : slice_get (told_in items (f + place) tree) index ≡ Some made
  number_is : n ≡ claims_before place (functions more) + index
  is : site ≡ claim_site l (function_sorts items tree) made

first_source : (l : List Shape) (items : List Item) (f : ℕ) (h : FunctionTree) (more : List Item) (n : ℕ) (site : ClaimSite)
    → slice_get (map (claim_site l (function_sorts items h)) (sites_told (function_occurrences items f h))) n ≡ Some site → Source l items f (i.Function h ∷ more) n site
first_source l items f h more n site e =
    let p = mapped (claim_site l (function_sorts items h)) (sites_told (function_occurrences items f h)) n site e in
    let at : f ≡ f + 0 = omega arith in
    record {
      place = 0;
      tree = h;
      there = refl;
      made = p.0;
      index = n;
      told = subst (λ m. slice_get (told_in items m h) n ≡ Some p.0) at (ap (λ (zs : List Site). slice_get zs n) (sym (function_sites items f h)) ∙ p.1);
      number_is = omega arith;
      is = sym p.2;
    }

-- how many claim sites a function adds
added : (l : List Shape) (items : List Item) (f : ℕ) (h : FunctionTree) → length (map (claim_site l (function_sorts items h)) (sites_told (function_occurrences items f h))) ≡ (in_statements h.body.all).sites
added l items f h = length-map (sites_told (function_occurrences items f h)) (claim_site l (function_sorts items h)) ∙ ap (λ (zs : List Site). length zs) (function_sites items f h) ∙ (statements_sited (around_function items h) f h.body.all).0

next_source : (l : List Shape) (items : List Item) (f : ℕ) (h : FunctionTree) (more : List Item) (n m : ℕ) (site : ClaimSite) → n ≡ (in_statements h.body.all).sites + m → Source l items (suc f) more m site → Source l items f (i.Function h ∷ more) n site
next_source l items f h more n m site e p =
    let at : suc f + p.place ≡ f + suc p.place = omega arith in
    record { place = suc p.place; tree = p.tree; there = p.there; made = p.made; index = p.index; told = subst (λ k. slice_get (told_in items k p.tree) p.index ≡ Some p.made) at p.told; is = p.is; number_is = omega (arith, e, p.number_is) }

source : (l : List Shape) (items : List Item) (f : ℕ) (more : List Item) (n : ℕ) (site : ClaimSite) → slice_get (site_table l items f more) n ≡ Some site → Source l items f more n site
source l items f [] n site e = absurd (none-some site e)
source l items f (i.Struct s ∷ more) n site e =
    let p = source l items f more n site e in
    record { place = p.place; tree = p.tree; there = p.there; made = p.made; index = p.index; told = p.told; is = p.is; number_is = p.number_is }
source l items f (i.Function h ∷ more) n site e =
    elim (in_two (map (claim_site l (function_sorts items h)) (sites_told (function_occurrences items f h))) (site_table l items (suc f) more) n site e) [
      | inl d ↦ first_source l items f h more n site d
      | inr d ↦ next_source l items f h more n d.0 site (omega (arith, d.1, added l items f h)) (source l items (suc f) more d.0 site d.2)
    ]

-- the entry of a claim of the function that is made at this place
site_of : (items : List Item) (n : ℕ) (site : ClaimSite) (h : FunctionTree) → Made items site.function h → (j : ℕ) (x : Site) → slice_get (told_in items site.function h) j ≡ Some x → n ≡ claims_before site.function (functions items) + j → site ≡ claim_site (shapes items) (function_sorts items h) x → SiteOf items n site
site_of items n site h m j x c k e = record {
  info = m.info;
  at_number = m.there;
  function_of = m.made;
  made = x;
  told = contained (told_in items site.function m.made.tree) j x (subst (λ u. slice_get (told_in items site.function u) j ≡ Some x) (sym m.tree_is) c);
  index = j;
  at_index = subst (λ u. slice_get (told_in items site.function u) j ≡ Some x) (sym m.tree_is) c;
  number_is = omega (arith, k, m.made.first_site);
  is = subst (λ u. site ≡ claim_site (shapes items) (function_sorts items u) x) (sym m.tree_is) e;
}

pub sites_law : SitesLaw
sites_law items end w n site e =
    let p = source (shapes items) items 0 items n site e in
    let a = (statements_sited (around_function items p.tree) (0 + p.place) p.tree.body.all).1 p.index p.made p.told in
    let place : 0 + p.place ≡ p.place = omega arith in
    let number : site.function ≡ p.place = ap (λ (y : ClaimSite). y.function) p.is ∙ (a ∙ place) in
    site_of items n site p.tree (function_made items end w site.function p.tree (ap (slice_get (functions items)) number ∙ p.there)) p.index p.made
    (subst (λ m. slice_get (told_in items m p.tree) p.index ≡ Some p.made) (place ∙ sym number) p.told) (p.number_is ∙ ap (λ m. claims_before m (functions items) + p.index) (sym number)) p.is
