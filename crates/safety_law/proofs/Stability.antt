-- Each label of a claim's stability is about a site.
use Rattle.std.proofs.Common.{◌≡◌, ℕ, zero, suc, ◌+◌, Bool, true, false, ◌==◌, ◌&&◌, refl, ap, ◌∙◌, subst, List, [], ◌∷◌, ◌++◌, length, replicate, Option, Some, None, slice_get, if◌then◌else◌, arith}
use Rattle.std.proofs.lemmas.List.{length-replicate}
use Rattle.std.proofs.lemmas.Bool.{eq-eqb}
use Rattle.method.specs.declared.program.CheckKind.{CheckKind}
use Rattle.method.specs.declared.program.CheckKind.TheVariants.{Divide, Range, Read, Write, Writes, Wrap, Unwrap, Claimed as HasClaims, Invariant, AtomicClosed, MakeClaim, ClaimStable, DestroyClaim, Requires, Ensures, Assert, LoopInv, Free, Spawn}
use Rattle.method.specs.declared.program.Expr.{Expr}
use Rattle.method.specs.declared.program.Expr.TheVariants.{Number, Null, Variable, Field', Not', Negate', Arithmetic', Compare', And', Or', Choose', Convert'}
use Rattle.method.specs.declared.program.DeclaredType.{DeclaredType}
use Rattle.int_ranges.specs.declared.ctype.CType.{CType}
use Rattle.method.specs.declared.program.Target.{Target}
use Rattle.method.specs.declared.program.Target.TheVariants.{Local, FieldOf}
use Rattle.method.specs.declared.program.InterlockedResult.{InterlockedResult}
use Rattle.method.specs.declared.program.InterlockedResult.TheVariants.{Plainly, Compared}
use Rattle.method.specs.declared.program.Claimed.{Claimed}
use Rattle.method.specs.declared.program.Claimed.TheVariants.{ClaimedVariable, ClaimedNull, ClaimedOther}
use Rattle.method.specs.declared.program.RightSide.{RightSide}
use Rattle.method.specs.declared.program.RightSide.TheVariants.{Compute, Malloc, NewClaim, Interlocked}
use Rattle.method.specs.declared.program.OwnsChange.{OwnsChange}
use Rattle.method.specs.declared.program.OwnsChange.TheVariants.{Assigned, Added, Removed}
use Rattle.method.specs.declared.program.Simple.{Simple}
use Rattle.method.specs.declared.program.Simple.TheVariants.{Assign, ChangeOwned, EndClaim}
use Rattle.method.specs.declared.program.Inner.{Inner, Row_of-Inner, end_of-Inner, more_of-Inner}
use Rattle.method.specs.declared.program.Inner.TheVariants.{Inside, InsideIf'}
use Rattle.method.specs.declared.program.Action.{Action}
use Rattle.method.specs.declared.program.Action.TheVariants.{Simply, Declare, Define, WrapObject, UnwrapObject, AssertSpec, FreeObject, SpawnThread, Atomic}
use Rattle.method.specs.declared.program.Receiver.{Receiver}
use Rattle.method.specs.declared.program.Receiver.TheVariants.{Nobody, NewVariable, Place as Left}
use Rattle.method.specs.declared.program.Stmt.{Stmt, Row_of-Stmt, end_of-Stmt, more_of-Stmt}
use Rattle.method.specs.declared.program.Stmt.TheVariants.{Do, If', While', DoWhile', Unwrapping', Call, Return}
use Rattle.method.specs.declared.program.ClaimSite.{ClaimSite}
use Rattle.method.specs.declared.program.FunctionInfo.{FunctionInfo}
use Rattle.method.specs.declared.program.Program.{Program}
use Rattle.object_types.specs.Sets.{every}
use Rattle.method.specs.Expressions.{checks, all_checks, divides}
use Rattle.method.specs.Actions.{claimed_checks, target_checks, right_checks, operands, counts, inner_checks, row_checks, list_checks, list_tally, listed_exprs, plain_listed}
use Rattle.method.specs.Text.{stmt_checks, row_checks as stmt_row_checks, body_checks}
use Rattle.method.specs.Labels.{Label, on_line, kinds, all_kinds, option_kinds, conversion_kinds, afterwards_kinds, claimed_kinds, site_kinds, target_kinds, right_kinds, store_kinds, member_kinds, change_kinds, simple_kinds, inner_labels, inner_row_labels, inner_list_labels, spawn_kinds, contract_kinds, receiver_kinds, receiving_kinds, action_labels, stmt_labels, row_labels, body_labels, end_labels, labels}
use Rattle.method.proofs.Global.{and_both, both_and}
use Rattle.machine_laws.proofs.Typed.{not_both, or_left, or_right, some_is}
use Rattle.safety_law.specs.SitePlaces.{SitePlace, site_places, right_places, simple_places, inner_places, inner_row_places, inner_list_places, action_places, stmt_places, stmt_row_places, body_places, function_places, is_placed}
use Rattle.safety_law.specs.LabelFacts.{is_checked, SitesAreLabelled}
use Rattle.safety_law.proofs.Faults.{KindsAt, LabelsAt}
use Rattle.safety_law.proofs.Sizes.{kinds_size, claimed_size, target_size, right_size, inner_size, opening_size, line_size, both_sizes, three_sizes, stmt_size, row_size, inner_row_size, inner_list_size, body_size}
use Rattle.safety_law.proofs.Sites.{some_both}

-- Kinds that are all of checks of the machine.

abbrev Plain : List CheckKind → Type 0
Plain ks = every is_checked ks ≡ true

plain_both : (xs ys : List CheckKind) → Plain xs → Plain ys → Plain (xs ++ ys)
plain_both [] ys a b = b
plain_both (x ∷ xs) ys a b = by (is_checked x) a (plain_both xs ys)
  where
    by : (c : Bool) → c && every is_checked xs ≡ true → (Plain xs → Plain ys → Plain (xs ++ ys)) → c && every is_checked (xs ++ ys) ≡ true
    by true e more = more e b
    by false e more = absurd (cc)

plain_same : (n : ℕ) (k : CheckKind) → is_checked k ≡ true → Plain (replicate n k)
plain_same zero k e = refl
plain_same (suc n) k e = both_and (is_checked k) (every is_checked (replicate n k)) e (plain_same n k e)

plain_if : (b : Bool) (xs ys : List CheckKind) → Plain xs → Plain ys → Plain (if b then xs else ys)
plain_if true xs ys a c = a
plain_if false xs ys a c = c

kinds_plain : (e : Expr) → Plain (kinds e)
kinds_plain (Number z) = refl
kinds_plain Null = refl
kinds_plain (Variable i) = refl
kinds_plain (Field' q e f) = plain_both (kinds e) (Read ∷ []) (kinds_plain e) refl
kinds_plain (Not' q e) = kinds_plain e
kinds_plain (Negate' q e c) = plain_both (kinds e) (Range ∷ []) (kinds_plain e) refl
kinds_plain (Arithmetic' op q a r b c) = plain_both (kinds a ++ kinds b) _ (plain_both (kinds a) (kinds b) (kinds_plain a) (kinds_plain b))
    (plain_if (divides op) (Divide ∷ Range ∷ []) (Range ∷ []) refl refl)
kinds_plain (Compare' k q a r b) = plain_both (kinds a) (kinds b) (kinds_plain a) (kinds_plain b)
kinds_plain (And' q a r b) = plain_both (kinds a) (kinds b) (kinds_plain a) (kinds_plain b)
kinds_plain (Or' q a r b) = plain_both (kinds a) (kinds b) (kinds_plain a) (kinds_plain b)
kinds_plain (Choose' q a r b t c) = plain_both (kinds a ++ kinds b) (kinds c) (plain_both (kinds a) (kinds b) (kinds_plain a) (kinds_plain b)) (kinds_plain c)
kinds_plain (Convert' q e c) = plain_both (kinds e) (Range ∷ []) (kinds_plain e) refl

all_plain : (es : List Expr) → Plain (all_kinds es)
all_plain [] = refl
all_plain (e ∷ es) = plain_both (kinds e) (all_kinds es) (kinds_plain e) (all_plain es)

option_plain : (e : Option Expr) → Plain (option_kinds e)
option_plain None = refl
option_plain (Some e) = kinds_plain e

conversion_plain : (c : Option CType) → Plain (conversion_kinds c)
conversion_plain None = refl
conversion_plain (Some c) = refl

afterwards_plain : (r : InterlockedResult) → Plain (afterwards_kinds r)
afterwards_plain (Plainly c) = conversion_plain c
afterwards_plain (Compared c equal e d) = plain_both (conversion_kinds c ++ kinds e) (conversion_kinds d) (plain_both (conversion_kinds c) (kinds e) (conversion_plain c) (kinds_plain e))
    (conversion_plain d)

target_plain : (t : Target) → Plain (target_kinds t)
target_plain (Local i) = refl
target_plain (FieldOf e f) = kinds_plain e

store_plain : (t : Target) → Plain (store_kinds t)
store_plain (Local i) = refl
store_plain (FieldOf e f) = refl

claimed_plain : (cs : List Claimed) → Plain (claimed_kinds cs)
claimed_plain [] = refl
claimed_plain (ClaimedVariable i ∷ cs) = claimed_plain cs
claimed_plain (ClaimedNull ∷ cs) = claimed_plain cs
claimed_plain (ClaimedOther e ty ∷ cs) = plain_both (kinds e) (claimed_kinds cs) (kinds_plain e) (claimed_plain cs)

member_plain : (inside : Bool) (es : List Expr) → Plain (member_kinds inside es)
member_plain inside [] = refl
member_plain true (e ∷ es) = member_plain true es
member_plain false (e ∷ es) = member_plain false es

change_plain : (inside : Bool) (c : OwnsChange) (es : List Expr) → Plain (change_kinds inside c es)
change_plain inside Assigned es = refl
change_plain inside Added es = member_plain inside es
change_plain inside Removed es = member_plain inside es

receiver_plain : (to : Receiver) → Plain (receiver_kinds to)
receiver_plain Nobody = refl
receiver_plain (NewVariable i) = refl
receiver_plain (Left t) = target_plain t

receiving_plain : (to : Receiver) → Plain (receiving_kinds to)
receiving_plain Nobody = refl
receiving_plain (NewVariable i) = refl
receiving_plain (Left t) = store_plain t

contract_plain : (a b : CheckKind) → is_checked a ≡ true → is_checked b ≡ true → (o : Option FunctionInfo) → Plain (contract_kinds a b o)
contract_plain a b e f None = refl
contract_plain a b e f (Some g) = plain_both (replicate (length g.requires_.items) a) (replicate (length g.writes.items) b) (plain_same (length g.requires_.items) a e)
    (plain_same (length g.writes.items) b f)

spawn_plain : (o : Option FunctionInfo) → Plain (spawn_kinds o)
spawn_plain None = refl
spawn_plain (Some g) = plain_both (replicate (length g.writes.items) Spawn) (replicate (length g.requires_.items) Spawn) (plain_same (length g.writes.items) Spawn refl)
    (plain_same (length g.requires_.items) Spawn refl)

-- Labels of stability, each with a site among these places.

module _ (p : Program) where
  pub record Placed (ps : List SitePlace) (number : ℕ) : Type 0 where
    pub which : ℕ
    pub site : ClaimSite
    pub is : slice_get p.sites.items which ≡ Some site
    pub placed : is_placed which number ps ≡ true

  abbrev Stability : List SitePlace → ℕ → CheckKind → ℕ → Type 0
  Stability ps n kind line = is_checked kind ≡ false → Placed ps n

  abbrev LabelsIn : List SitePlace → List Label → ℕ → Type 0
  LabelsIn ps ls n = LabelsAt (Stability ps) ls n

  placed_left : (ps qs : List SitePlace) (n : ℕ) → Placed ps n → Placed (ps ++ qs) n
  placed_left ps qs n x = record { which = x.which; site = x.site; is = x.is; placed = some_both (λ q. (q.site == x.which) && (q.number == n)) ps qs ∙ or_left _ _ x.placed }

  placed_right : (ps qs : List SitePlace) (n : ℕ) → Placed qs n → Placed (ps ++ qs) n
  placed_right ps qs n x = record { which = x.which; site = x.site; is = x.is; placed = some_both (λ q. (q.site == x.which) && (q.number == n)) ps qs ∙ or_right _ _ x.placed }

  in_left : (ps qs : List SitePlace) (ls : List Label) (n : ℕ) → LabelsIn ps ls n → LabelsIn (ps ++ qs) ls n
  in_left ps qs [] n x = tt
  in_left ps qs (l ∷ ls) n x = ((λ e. placed_left ps qs n (x.0 e)), in_left ps qs ls (n + 1) x.1)

  in_right : (ps qs : List SitePlace) (ls : List Label) (n : ℕ) → LabelsIn qs ls n → LabelsIn (ps ++ qs) ls n
  in_right ps qs [] n x = tt
  in_right ps qs (l ∷ ls) n x = ((λ e. placed_right ps qs n (x.0 e)), in_right ps qs ls (n + 1) x.1)

  in_both : (ps : List SitePlace) (xs ys : List Label) (n c : ℕ) → length xs ≡ c → LabelsIn ps xs n → LabelsIn ps ys (n + c) → LabelsIn ps (xs ++ ys) n
  in_both ps [] ys n c e a b = subst (LabelsIn ps ys) (omega (arith, e)) b
  in_both ps (x ∷ xs) ys n c e a b = (a.0, in_both ps xs ys (n + 1) (length xs) refl a.1 (subst (LabelsIn ps ys) (omega (arith, e)) b))

  -- The same of kinds on one line.

  abbrev KindsIn : List SitePlace → ℕ → List CheckKind → ℕ → Type 0
  KindsIn ps line ks n = KindsAt (Stability ps) line ks n

  line_in : (ps : List SitePlace) (line : ℕ) (ks : List CheckKind) (n : ℕ) → KindsIn ps line ks n → LabelsIn ps (on_line line ks) n
  line_in ps line [] n x = tt
  line_in ps line (k ∷ ks) n x = (x.0, line_in ps line ks (n + 1) x.1)

  kinds_both : (ps : List SitePlace) (line : ℕ) (xs ys : List CheckKind) (n c : ℕ) → length xs ≡ c → KindsIn ps line xs n → KindsIn ps line ys (n + c) → KindsIn ps line (xs ++ ys) n
  kinds_both ps line [] ys n c e a b = subst (KindsIn ps line ys) (omega (arith, e)) b
  kinds_both ps line (x ∷ xs) ys n c e a b = (a.0, kinds_both ps line xs ys (n + 1) (length xs) refl a.1 (subst (KindsIn ps line ys) (omega (arith, e)) b))

  plain_kinds : (ps : List SitePlace) (line : ℕ) (ks : List CheckKind) (n : ℕ) → Plain ks → KindsIn ps line ks n
  plain_kinds ps line [] n e = tt
  plain_kinds ps line (k ∷ ks) n e =
      let z = and_both (is_checked k) (every is_checked ks) e in
      ((λ u. absurd (not_both (is_checked k) z.0 u)), plain_kinds ps line ks (n + 1) z.1)

  plain_line : (ps : List SitePlace) (line : ℕ) (ks : List CheckKind) (n : ℕ) → Plain ks → LabelsIn ps (on_line line ks) n
  plain_line ps line ks n e = line_in ps line ks n (plain_kinds ps line ks n e)

  -- Statements.

  site_in : (inside : Bool) (line n k : ℕ) (o : Option ClaimSite) → slice_get p.sites.items k ≡ o → KindsIn (site_places o k n) line (site_kinds inside o) n
  site_in inside line n k None e = tt
  site_in inside line n k (Some s) e =
      let many = length s.claimed.items in
      let c = claimed_checks s.claimed.items in
      let m = n + c + many in
      let ps : List SitePlace = record { site = k; number = m } ∷ [] in
      let early = claimed_kinds s.claimed.items ++ replicate many MakeClaim in
      let late : List CheckKind = if inside then [] else replicate (length s.conjuncts.items) MakeClaim ++ replicate many Invariant in
      let size = both_sizes (claimed_kinds s.claimed.items) (replicate many MakeClaim) c many (claimed_size s.claimed.items) (length-replicate many MakeClaim) in
      let here : Placed ps m = record { which = k; site = s; is = e; placed = or_left ((k == k) && (m == m)) false (both_and (k == k) (m == m) (eq-eqb k k refl) (eq-eqb m m refl)) } in
      kinds_both ps line (early ++ (ClaimStable ∷ [])) late n (c + many + 1) (both_sizes early (ClaimStable ∷ []) (c + many) 1 size refl)
      (kinds_both ps line early (ClaimStable ∷ []) n (c + many) size (plain_kinds ps line early n
      (plain_both (claimed_kinds s.claimed.items) (replicate many MakeClaim) (claimed_plain s.claimed.items) (plain_same many MakeClaim refl)))
      ((λ u. subst (Placed ps) (omega arith) here), tt))
      (plain_kinds ps line late (n + (c + many + 1))
      (plain_if inside [] _ refl (plain_both (replicate (length s.conjuncts.items) MakeClaim) (replicate many Invariant) (plain_same (length s.conjuncts.items) MakeClaim refl)
      (plain_same many Invariant refl))))

  right_in : (inside : Bool) (line n : ℕ) (r : RightSide) → KindsIn (right_places p r n) line (right_kinds p inside r) n
  right_in inside line n (Compute e) = plain_kinds [] line (kinds e) n (kinds_plain e)
  right_in inside line n (Malloc ty) = tt
  right_in inside line n (NewClaim k) = site_in inside line n k (slice_get p.sites.items k) refl
  right_in inside line n (Interlocked e f op then') = plain_kinds [] line _ n
      (plain_both (kinds e ++ all_kinds (operands op) ++ (if counts op then Read ∷ Range ∷ Write ∷ Writes ∷ [] else Read ∷ Write ∷ Writes ∷ [])) (afterwards_kinds then')
      (plain_both (kinds e ++ all_kinds (operands op)) _ (plain_both (kinds e) (all_kinds (operands op)) (kinds_plain e) (all_plain (operands op)))
      (plain_if (counts op) (Read ∷ Range ∷ Write ∷ Writes ∷ []) (Read ∷ Write ∷ Writes ∷ []) refl refl)) (afterwards_plain then'))

  simple_in : (inside : Bool) (line n : ℕ) (a : Simple) → KindsIn (simple_places p a n) line (simple_kinds p inside a) n
  simple_in inside line n (Assign t r) =
      let ps = right_places p r (n + target_checks t) in
      kinds_both ps line (target_kinds t ++ right_kinds p inside r) (store_kinds t) n (target_checks t + right_checks p inside r)
      (both_sizes (target_kinds t) (right_kinds p inside r) (target_checks t) (right_checks p inside r) (target_size t) (right_size p inside r))
      (kinds_both ps line (target_kinds t) (right_kinds p inside r) n (target_checks t) (target_size t) (plain_kinds ps line (target_kinds t) n (target_plain t))
      (right_in inside line (n + target_checks t) r))
      (plain_kinds ps line (store_kinds t) (n + (target_checks t + right_checks p inside r)) (store_plain t))
  simple_in inside line n (ChangeOwned c e es) = plain_kinds [] line _ n (plain_both (kinds e ++ all_kinds es.items) (change_kinds inside c es.items)
      (plain_both (kinds e) (all_kinds es.items) (kinds_plain e) (all_plain es.items)) (change_plain inside c es.items))
  simple_in inside line n (EndClaim q e es) =
      let many = length es.items in
      plain_kinds [] line _ n (plain_both (kinds e ++ all_kinds es.items ++ (DestroyClaim ∷ []) ++ replicate many DestroyClaim) (if inside then [] else replicate many Invariant)
      (plain_both (kinds e ++ all_kinds es.items ++ (DestroyClaim ∷ [])) (replicate many DestroyClaim)
      (plain_both (kinds e ++ all_kinds es.items) (DestroyClaim ∷ []) (plain_both (kinds e) (all_kinds es.items) (kinds_plain e) (all_plain es.items)) refl) (plain_same many DestroyClaim refl))
      (plain_if inside [] (replicate many Invariant) refl (plain_same many Invariant refl)))

  -- two parts, each with its places
  parts_in : (ps qs : List SitePlace) (xs ys : List Label) (n c : ℕ) → length xs ≡ c → LabelsIn ps xs n → LabelsIn qs ys (n + c) → LabelsIn (ps ++ qs) (xs ++ ys) n
  parts_in ps qs xs ys n c e a b = in_both (ps ++ qs) xs ys n c e (in_left ps qs xs n a) (in_right ps qs ys (n + c) b)

  mutual
    inner_in : (a : Inner) (n : ℕ) → LabelsIn (inner_places p a n) (inner_labels p a) n
    inner_in (Inside line s) n = line_in (simple_places p s n) line (simple_kinds p true s) n (simple_in true line n s)
    inner_in (InsideIf' line e k a q b) n =
        let ps = inner_row_places p a (n + checks e) in
        let qs = inner_row_places p b (n + checks e + row_checks p a) in
        let size = line_size line (kinds e) (checks e) (kinds_size e) in
        in_both (ps ++ qs) (on_line line (kinds e) ++ inner_row_labels p a) (inner_row_labels p b) n (checks e + row_checks p a)
        (both_sizes (on_line line (kinds e)) (inner_row_labels p a) (checks e) (row_checks p a) size (inner_row_size p a))
        (in_both (ps ++ qs) (on_line line (kinds e)) (inner_row_labels p a) n (checks e) size (plain_line (ps ++ qs) line (kinds e) n (kinds_plain e))
        (in_left ps qs (inner_row_labels p a) (n + checks e) (inner_row_in a (n + checks e))))
        (subst (LabelsIn (ps ++ qs) (inner_row_labels p b)) (omega arith) (in_right ps qs (inner_row_labels p b) (n + checks e + row_checks p a) (inner_row_in b (n + checks e + row_checks p a))))

    inner_row_in : {k : _} (row : Row_of-Inner k) (n : ℕ) → LabelsIn (inner_row_places p row n) (inner_row_labels p row) n
    inner_row_in end_of-Inner n = tt
    inner_row_in (more_of-Inner a row) n = parts_in (inner_places p a n) (inner_row_places p row (n + inner_checks p a)) (inner_labels p a) (inner_row_labels p row) n (inner_checks p a)
        (inner_size p a) (inner_in a n) (inner_row_in row (n + inner_checks p a))

  list_in : (as_ : List Inner) (n : ℕ) → LabelsIn (inner_list_places p as_ n) (inner_list_labels p as_) n
  list_in [] n = tt
  list_in (a ∷ as_) n = parts_in (inner_places p a n) (inner_list_places p as_ (n + inner_checks p a)) (inner_labels p a) (inner_list_labels p as_) n (inner_checks p a) (inner_size p a)
      (inner_in a n) (list_in as_ (n + inner_checks p a))

  -- labels around those of a part
  around : (ps : List SitePlace) (xs ys zs : List Label) (n a b : ℕ) → length xs ≡ a → length ys ≡ b → ((i : ℕ) → LabelsIn ps xs i) → LabelsIn ps ys (n + a) → ((i : ℕ) → LabelsIn ps zs i) →
      LabelsIn ps (xs ++ ys ++ zs) n
  around ps xs ys zs n a b e f x y z = in_both ps (xs ++ ys) zs n (a + b) (both_sizes xs ys a b e f) (in_both ps xs ys n a e (x n) y) (z (n + (a + b)))

  action_in : (line : ℕ) (a : Action) (n : ℕ) → LabelsIn (action_places p a n) (action_labels p line a) n
  action_in line (Simply s) n = line_in (simple_places p s n) line (simple_kinds p false s) n (simple_in false line n s)
  action_in line (Declare j) n = tt
  action_in line (Define j r) n = line_in (right_places p r n) line (right_kinds p false r) n (right_in false line n r)
  action_in line (WrapObject ty q e) n = plain_line [] line _ n (plain_both (kinds e) (Wrap ∷ Writes ∷ Wrap ∷ Invariant ∷ []) (kinds_plain e) refl)
  action_in line (UnwrapObject e) n = plain_line [] line _ n (plain_both (kinds e) (Unwrap ∷ Writes ∷ HasClaims ∷ []) (kinds_plain e) refl)
  action_in line (AssertSpec e) n = plain_line [] line (Assert ∷ []) n refl
  action_in line (FreeObject e) n = plain_line [] line _ n (plain_both (kinds e) (Free ∷ Writes ∷ []) (kinds_plain e) refl)
  action_in line (SpawnThread k es) n = plain_line [] line _ n (plain_both (all_kinds es.items) (spawn_kinds (slice_get p.functions.items k)) (all_plain es.items)
      (spawn_plain (slice_get p.functions.items k)))
  action_in line (Atomic ls body) n =
      let es = listed_exprs ls.items in
      let a = all_checks es + length ls.items in
      let opening = all_kinds es ++ replicate (length ls.items) AtomicClosed in
      let t = list_tally p body.items in
      let closing = replicate (plain_listed ls.items) Invariant ++ replicate t.objects Invariant ++ replicate t.claims Invariant in
      let m = n + all_checks es + length ls.items in
      let ps = inner_list_places p body.items m in
      around ps (on_line line opening) (inner_list_labels p body.items) (on_line line closing) n a (list_checks p body.items) (line_size line opening a (opening_size ls.items))
      (inner_list_size p body.items)
      (λ i. plain_line ps line opening i (plain_both (all_kinds es) (replicate (length ls.items) AtomicClosed) (all_plain es) (plain_same (length ls.items) AtomicClosed refl)))
      (subst (LabelsIn ps (inner_list_labels p body.items)) (omega arith) (list_in body.items m))
      (λ i. plain_line ps line closing i (plain_both (replicate (plain_listed ls.items) Invariant ++ replicate t.objects Invariant) (replicate t.claims Invariant)
      (plain_both (replicate (plain_listed ls.items) Invariant) (replicate t.objects Invariant) (plain_same (plain_listed ls.items) Invariant refl)
      (plain_same t.objects Invariant refl)) (plain_same t.claims Invariant refl)))

  module _ (f : FunctionInfo) where
    mutual
      stmt_in : (s : Stmt) (n : ℕ) → LabelsIn (stmt_places p f s n) (stmt_labels p f s) n
      stmt_in (Do line a) n = action_in line a n
      stmt_in (If' line in_ghost e k a q b) n =
          let ps = stmt_row_places p f a (n + checks e) in
          let qs = stmt_row_places p f b (n + checks e + stmt_row_checks p f a) in
          let size = line_size line (kinds e) (checks e) (kinds_size e) in
          in_both (ps ++ qs) (on_line line (kinds e) ++ row_labels p f a) (row_labels p f b) n (checks e + stmt_row_checks p f a)
          (both_sizes (on_line line (kinds e)) (row_labels p f a) (checks e) (stmt_row_checks p f a) size (row_size p f a))
          (in_both (ps ++ qs) (on_line line (kinds e)) (row_labels p f a) n (checks e) size (plain_line (ps ++ qs) line (kinds e) n (kinds_plain e))
          (in_left ps qs (row_labels p f a) (n + checks e) (row_in a (n + checks e))))
          (subst (LabelsIn (ps ++ qs) (row_labels p f b)) (omega arith) (in_right ps qs (row_labels p f b) (n + checks e + stmt_row_checks p f a) (row_in b (n + checks e + stmt_row_checks p f a))))
      stmt_in (While' line invs e k row) n =
          let c = length invs.items in
          let loop = replicate c LoopInv in
          let ps = stmt_row_places p f row (n + c + checks e) in
          around ps (on_line line (loop ++ kinds e)) (row_labels p f row) (on_line line loop) n (c + checks e) (stmt_row_checks p f row)
          (line_size line (loop ++ kinds e) (c + checks e) (both_sizes loop (kinds e) c (checks e) (length-replicate c LoopInv) (kinds_size e))) (row_size p f row)
          (λ i. plain_line ps line (loop ++ kinds e) i (plain_both loop (kinds e) (plain_same c LoopInv refl) (kinds_plain e)))
          (subst (LabelsIn ps (row_labels p f row)) (omega arith) (row_in row (n + c + checks e))) (λ i. plain_line ps line loop i (plain_same c LoopInv refl))
      stmt_in (DoWhile' line invs k row tested e) n =
          let c = length invs.items in
          let loop = replicate c LoopInv in
          let ps = stmt_row_places p f row (n + c) in
          let size = line_size line loop c (length-replicate c LoopInv) in
          let front = on_line line loop ++ row_labels p f row ++ on_line tested (kinds e) in
          in_both ps front (on_line line loop) n (c + stmt_row_checks p f row + checks e) (three_sizes (on_line line loop) (row_labels p f row) (on_line tested (kinds e)) c
          (stmt_row_checks p f row) (checks e) size (row_size p f row) (line_size tested (kinds e) (checks e) (kinds_size e)))
          (around ps (on_line line loop) (row_labels p f row) (on_line tested (kinds e)) n c (stmt_row_checks p f row) size (row_size p f row)
          (λ i. plain_line ps line loop i (plain_same c LoopInv refl)) (row_in row (n + c)) (λ i. plain_line ps tested (kinds e) i (kinds_plain e)))
          (plain_line ps line loop (n + (c + stmt_row_checks p f row + checks e)) (plain_same c LoopInv refl))
      stmt_in (Unwrapping' line ty q e k row) n =
          let opening = kinds e ++ (Unwrap ∷ Writes ∷ HasClaims ∷ []) in
          let closing = Wrap ∷ Writes ∷ Wrap ∷ Invariant ∷ [] in
          let ps = stmt_row_places p f row (n + checks e + 3) in
          around ps (on_line line opening) (row_labels p f row) (on_line line closing) n (checks e + 3) (stmt_row_checks p f row)
          (line_size line opening (checks e + 3) (both_sizes (kinds e) (Unwrap ∷ Writes ∷ HasClaims ∷ []) (checks e) 3 (kinds_size e) refl)) (row_size p f row)
          (λ i. plain_line ps line opening i (plain_both (kinds e) (Unwrap ∷ Writes ∷ HasClaims ∷ []) (kinds_plain e) refl))
          (subst (LabelsIn ps (row_labels p f row)) (omega arith) (row_in row (n + checks e + 3))) (λ i. plain_line ps line closing i refl)
      stmt_in (Call line to c k es) n =
          let contract = contract_kinds Requires Writes (slice_get p.functions.items k) in
          plain_line [] line _ n (plain_both (receiver_kinds to ++ all_kinds es.items ++ contract ++ conversion_kinds c) (receiving_kinds to)
          (plain_both (receiver_kinds to ++ all_kinds es.items ++ contract) (conversion_kinds c)
          (plain_both (receiver_kinds to ++ all_kinds es.items) contract (plain_both (receiver_kinds to) (all_kinds es.items) (receiver_plain to) (all_plain es.items))
          (contract_plain Requires Writes refl refl (slice_get p.functions.items k))) (conversion_plain c)) (receiving_plain to))
      stmt_in (Return line e) n = plain_line [] line _ n (plain_both (option_kinds e) (replicate (length f.ensures_.items) Ensures) (option_plain e)
          (plain_same (length f.ensures_.items) Ensures refl))

      row_in : {k : _} (row : Row_of-Stmt k) (n : ℕ) → LabelsIn (stmt_row_places p f row n) (row_labels p f row) n
      row_in end_of-Stmt n = tt
      row_in (more_of-Stmt s row) n = parts_in (stmt_places p f s n) (stmt_row_places p f row (n + stmt_checks p f s)) (stmt_labels p f s) (row_labels p f row) n (stmt_checks p f s)
          (stmt_size p f s) (stmt_in s n) (row_in row (n + stmt_checks p f s))

    body_in : (ss : List Stmt) (n : ℕ) → LabelsIn (body_places p f ss n) (body_labels p f ss) n
    body_in [] n = tt
    body_in (s ∷ ss) n = parts_in (stmt_places p f s n) (body_places p f ss (n + stmt_checks p f s)) (stmt_labels p f s) (body_labels p f ss) n (stmt_checks p f s) (stmt_size p f s)
        (stmt_in s n) (body_in ss (n + stmt_checks p f s))

    end_in : (ps : List SitePlace) (r : Option DeclaredType) (n : ℕ) → LabelsIn ps (end_labels p f r) n
    end_in ps None n = plain_line ps f.end (replicate (length f.ensures_.items) Ensures) n (plain_same (length f.ensures_.items) Ensures refl)
    end_in ps (Some ty) n = tt

    pub function_in : LabelsIn (body_places p f f.body.items 1) (labels p f) 1
    function_in =
        let ps = body_places p f f.body.items 1 in
        in_both ps (body_labels p f f.body.items) (end_labels p f f.result) 1 (body_checks p f f.body.items) (body_size p f f.body.items) (body_in f.body.items 1)
        (end_in ps f.result (1 + body_checks p f f.body.items))

  at_place : (ps : List SitePlace) (ls : List Label) (n i line : ℕ) → LabelsIn ps ls n → slice_get ls i ≡ Some (record { kind = ClaimStable; line = line }) → Placed ps (n + i)
  at_place ps [] n i line x e = absurd (cc)
  at_place ps (l ∷ ls) n zero line x e = subst (Placed ps) (omega arith) (x.0 (ap (λ (z : Label). is_checked z.kind) (some_is l _ e)))
  at_place ps (l ∷ ls) n (suc i) line x e = subst (Placed ps) (omega arith) (at_place ps ls (n + 1) i line x.1 e)

pub sites_are_labelled : SitesAreLabelled
sites_are_labelled p k f is i line e =
    let x = at_place p (body_places p f f.body.items 1) (labels p f) 1 i line (function_in p f) e in
    record { which = x.which; site = x.site; is = x.is; placed = ap (λ o. is_placed x.which (1 + i) (function_places p o)) is ∙ x.placed }
