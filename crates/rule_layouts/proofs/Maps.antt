-- The rows of map in two graphs.
use Rattle.std.proofs.Common.{◌≡◌, inl, inr, ℕ, zero, suc, ◌-◌, ◌==◌, ◌≤◌, ℤ, pos, false, List, [], ◌∷◌, ◌++◌, Option, Some, slice_get, refl, ap, sym, ◌∙◌, subst}
use Rattle.terms.specs.declared.term.Term.{Term}
use Rattle.terms.specs.declared.term.Literal.{Literal}
use Rattle.terms.specs.declared.term.Kind.{Kind}
use Rattle.terms.specs.declared.term.Kind.TheVariants as k
use Rattle.terms.specs.declared.sort.Sort.{Sort}
use Rattle.terms.specs.Formula.{term}
use Rattle.term_graph.specs.Graph.{IsGraph}
use Rattle.vcc_rules.specs.Equality.{sides}
use Rattle.vcc_rules.specs.Rows.{yes}
use Rattle.rule_maps.specs.Rows.{is_sort, IsRead, IsStore, IsReadOfStore, IsReadBack, IsOtherKey, IsOtherColumn, IsMap}
use Rattle.rule_layouts.specs.Layouts.{SameTree, SameTrees, SameClause, SameName, SameSorts}
use Rattle.rule_layouts.proofs.Trees.{SameNodes, nodes, first, no_more, some_is, one_right, given_is, name_is}
use Rattle.rule_layouts.proofs.Sides.{sides_same, sides_there}

-- a node of this kind and column, with these arguments
args_are : (ts us : List Term) (kind : Kind) (C : ℤ) (t u : ℕ) (xs : List ℕ) (n : SameNodes ts us t u) → slice_get ts t ≡ Some (term kind C xs) → (ys : List ℕ) × (slice_get us u ≡ Some (term kind C ys)) × SameTrees ts us xs ys
args_are ts us kind C t u xs n h =
    let e : term n.kind n.index n.args ≡ term kind C xs = some_is (term n.kind n.index n.args) (term kind C xs) (sym n.is ∙ h) in (
      n.others,
      n.other ∙ ap (λ (o : Term). Some (term o.kind o.index n.others)) e,
      subst (λ (o : Term). SameTrees ts us o.args n.others) e n.trees,
    )

-- the last of a list's places
last_same : (ts us : List Term) (xs : List ℕ) (v : ℕ) (ys : List ℕ) → SameTrees ts us (xs ++ v ∷ []) ys → (zs : List ℕ) × (w : ℕ) × (ys ≡ zs ++ w ∷ []) × SameTrees ts us xs zs × SameTree ts us v w
last_same ts us [] v ys s =
    let p = first ts us v [] ys s in
    ([], p.0, p.2 ∙ ap (λ xs. p.0 ∷ xs) (no_more ts us p.1 p.4), tt, p.3)
last_same ts us (x ∷ xs) v ys s =
    let p = first ts us x (xs ++ v ∷ []) ys s in
    let q = last_same ts us xs v p.1 p.4 in
    (p.0 ∷ q.0, q.1, p.2 ∙ ap (λ zs. p.0 ∷ zs) q.2, (p.3, q.3), q.4)

-- what stands at a place of both
key_same : (ts us : List Term) (xs ys : List ℕ) (i a : ℕ) → SameTrees ts us xs ys → slice_get xs i ≡ Some a → (b : ℕ) × (slice_get ys i ≡ Some b) × SameTree ts us a b
key_same ts us [] ys i a s h = absurd (cc)
key_same ts us (x ∷ xs) [] i a s h = absurd s
key_same ts us (x ∷ xs) (y ∷ ys) zero a s h = (y, refl, subst (λ (z : ℕ). SameTree ts us z y) (some_is x a h) s.0)
key_same ts us (x ∷ xs) (y ∷ ys) (suc i) a s h = key_same ts us xs ys i a s.1 h

-- The numbers of a map step in two graphs: `1 t`, `2 i t u` or `3 t`.
pub record SameMap (ts us : List Term) (zs ws : List ℤ) : Type 0 where
  pub one : (n : ℕ) (t : ℤ) → (n == 2) ≡ false → zs ≡ pos n ∷ t ∷ [] → (u : ℤ) × (ws ≡ pos n ∷ u ∷ []) × SameName ts us t u
  pub two : (i t u : ℤ) → zs ≡ pos 2 ∷ i ∷ t ∷ u ∷ [] → (v : ℤ) × (w : ℤ) × (ws ≡ pos 2 ∷ i ∷ v ∷ w ∷ []) × SameName ts us t v × SameName ts us u w

module _ (ts us : List Term) (gt : IsGraph ts) (gu : IsGraph us) where
  trees_is : (xs ys zs : List ℕ) → SameTrees ts us xs ys → SameTrees ts us xs zs → ys ≡ zs
  trees_is [] [] [] s x = refl
  trees_is [] [] (z ∷ zs) s x = absurd x
  trees_is [] (y ∷ ys) zs s x = absurd s
  trees_is (x ∷ xs) [] zs s y = absurd s
  trees_is (x ∷ xs) (y ∷ ys) [] s z = absurd z
  trees_is (x ∷ xs) (y ∷ ys) (z ∷ zs) s w = λ i. one_right ts us gt gu x y z s.0 w.0 i ∷ trees_is xs ys zs s.1 w.1 i

  read_same : (t u : ℕ) (C : ℤ) (h : ℕ) (L : List ℕ) → SameTree ts us t u → IsRead ts t C h L → (g : ℕ) × (M : List ℕ) × IsRead us u C g M × SameTree ts us h g × SameTrees ts us L M
  read_same t u C h L s r =
      let p = args_are ts us k.Get C t u (h ∷ L) (nodes ts us t u s) r in
      let q = first ts us h L p.0 p.2 in
      (q.0, q.1, p.1 ∙ ap (λ xs. Some (term k.Get C xs)) q.2, q.3, q.4)

  store_same :
      (t u : ℕ) (C : ℤ) (h : ℕ) (K : List ℕ) (v : ℕ) → SameTree ts us t u → IsStore ts t C h K v
      → (g : ℕ) × (M : List ℕ) × (w : ℕ) × IsStore us u C g M w × SameTree ts us h g × SameTrees ts us K M × SameTree ts us v w
  store_same t u C h K v s r =
      let p = args_are ts us k.Set C t u (h ∷ K ++ v ∷ []) (nodes ts us t u s) r in
      let q = first ts us h (K ++ v ∷ []) p.0 p.2 in
      let m = last_same ts us K v q.1 q.4 in
      (q.0, m.0, m.1, p.1 ∙ ap (λ xs. Some (term k.Set C xs)) (q.2 ∙ ap (λ xs. q.0 ∷ xs) m.2), q.3, m.3, m.4)

  module _ (sorts others : List (Option Sort)) (sorted : SameSorts ts us sorts others) where
    -- what is read of what was stored
    pub record Found (t' : ℕ) (C : ℤ) (L : List ℕ) (D : ℤ) (h : ℕ) (K : List ℕ) (v x : ℕ) : Type 0 where
      pub L' : List ℕ
      pub h' : ℕ
      pub K' : List ℕ
      pub v' : ℕ
      pub x' : ℕ
      pub reads : IsReadOfStore others us t' C L' D h' K' v' x'
      pub L-same : SameTrees ts us L L'
      pub h-same : SameTree ts us h h'
      pub K-same : SameTrees ts us K K'
      pub v-same : SameTree ts us v v'
      pub x-same : SameTree ts us x x'

    reads_same : (t u : ℕ) (C : ℤ) (L : List ℕ) (D : ℤ) (h : ℕ) (K : List ℕ) (v x : ℕ) → SameTree ts us t u → IsReadOfStore sorts ts t C L D h K v x → Found u C L D h K v x
    reads_same t u C L D h K v x s r =
        let p = sides_same ts us t u r.read x s r.sides_are in
        let q = read_same r.read p.0 C r.store L p.3 r.is_read in
        let m = store_same r.store q.0 D h K v q.3 r.is_store in
        record {
          L' = q.1;
          h' = m.0;
          K' = m.1;
          v' = m.2;
          x' = p.1;
          reads = record { sorted = sym (ap is_sort (sorted t u s)) ∙ r.sorted; read = p.0; store = q.0; sides_are = p.2; is_read = q.2; is_store = m.3 };
          L-same = q.4;
          h-same = m.4;
          K-same = m.5;
          v-same = m.6;
          x-same = p.4;
        }

    read_back_same : (t u : ℕ) (ws : List ℤ) (c d : List Literal) (C : ℤ) (h : ℕ) (K : List ℕ) (v : ℕ) → ws ≡ pos 1 ∷ pos u ∷ [] → SameTree ts us t u → SameClause ts us c d → c ≡ yes t ∷ [] → IsReadOfStore sorts ts t C K C h K v v → IsReadBack others us ws d
    read_back_same t u ws c d C h K v e s x g r =
        let f = reads_same t u C K C h K v v s r in
        let keys : f.L' ≡ f.K' = trees_is K f.L' f.K' f.L-same f.K-same in
        let values : f.x' ≡ f.v' = one_right ts us gt gu v f.x' f.v' f.x-same f.v-same in
        record {
          t = u;
          C = C;
          h = f.h';
          K = f.K';
          v = f.v';
          named = e;
          reads = subst (λ (z : ℕ). IsReadOfStore others us u C f.K' C f.h' f.K' f.v' z) values (subst (λ (L : List ℕ). IsReadOfStore others us u C L C f.h' f.K' f.v' f.x') keys f.reads);
          given = given_is ts us gt gu c d (yes t ∷ []) (yes u ∷ []) x g ((s, refl), tt);
        }

    -- the term read is `get C h L` of the heap that was stored to
    read_again : (t u : ℕ) (C : ℤ) (L : List ℕ) (D : ℤ) (h : ℕ) (K : List ℕ) (v x : ℕ) (f : Found u C L D h K v x) → IsRead ts x C h L → IsRead us f.x' C f.h' f.L'
    read_again t u C L D h K v x f r =
        let p = read_same x f.x' C h L f.x-same r in
        let heaps : p.0 ≡ f.h' = one_right ts us gt gu h p.0 f.h' p.3 f.h-same in
        let keys : p.1 ≡ f.L' = trees_is L p.1 f.L' p.4 f.L-same in
        subst (λ (M : List ℕ). IsRead us f.x' C f.h' M) keys (subst (λ (g : ℕ). IsRead us f.x' C g p.1) heaps p.2)

    other_key_same :
        (i t u t' u' : ℕ) (ws : List ℤ) (c d : List Literal) (C : ℤ) (h : ℕ) (K : List ℕ) (v : ℕ) (L : List ℕ) (x a b : ℕ) → ws ≡ pos 2 ∷ pos i ∷ pos t' ∷ pos u' ∷ []
        → SameTree ts us t t' → SameTree ts us u u' → SameClause ts us c d → c ≡ yes u ∷ yes t ∷ [] → IsReadOfStore sorts ts t C L C h K v x → IsRead ts x C h L
        → 1 ≤ i → slice_get K (i - 1) ≡ Some a → slice_get L (i - 1) ≡ Some b → sides ts u ≡ Some (a, b) → IsOtherKey others us ws d
    other_key_same i t u t' u' ws c d C h K v L x a b e s z y g r o l p q w =
        let f = reads_same t t' C L C h K v x s r in
        let m = key_same ts us K f.K' (i - 1) a f.K-same p in
        let n = key_same ts us L f.L' (i - 1) b f.L-same q in
        let j = sides_same ts us u u' a b z w in
        let left : j.0 ≡ m.0 = one_right ts us gt gu a j.0 m.0 j.3 m.2 in
        let right : j.1 ≡ n.0 = one_right ts us gt gu b j.1 n.0 j.4 n.2 in
        record {
          i = i;
          t = t';
          u = u';
          C = C;
          h = f.h';
          K = f.K';
          v = f.v';
          L = f.L';
          x = f.x';
          a = m.0;
          b = n.0;
          named = e;
          reads = f.reads;
          is_read = read_again t t' C L C h K v x f o;
          from_one = l;
          stored_key = m.1;
          read_key = n.1;
          keys_equal = j.2 ∙ (λ i. Some (left i, right i));
          given = given_is ts us gt gu c d (yes u ∷ yes t ∷ []) (yes u' ∷ yes t' ∷ []) y g ((z, refl), ((s, refl), tt));
        }

    other_column_same :
        (t u : ℕ) (ws : List ℤ) (c d : List Literal) (C D : ℤ) (h : ℕ) (K : List ℕ) (v : ℕ) (L : List ℕ) (x : ℕ) → ws ≡ pos 3 ∷ pos u ∷ []
        → SameTree ts us t u → SameClause ts us c d → c ≡ yes t ∷ [] → IsReadOfStore sorts ts t C L D h K v x → IsRead ts x C h L → (C ≡ D → ⊥) → IsOtherColumn others us ws d
    other_column_same t u ws c d C D h K v L x e s y g r o n =
        let f = reads_same t u C L D h K v x s r in
        record {
          t = u;
          C = C;
          D = D;
          h = f.h';
          K = f.K';
          v = f.v';
          L = f.L';
          x = f.x';
          named = e;
          reads = f.reads;
          is_read = read_again t u C L D h K v x f o;
          unlike = n;
          given = given_is ts us gt gu c d (yes t ∷ []) (yes u ∷ []) y g ((s, refl), tt);
        }

    pub map_same : (zs ws : List ℤ) (c d : List Literal) → SameMap ts us zs ws → SameClause ts us c d → IsMap sorts ts zs c → IsMap others us ws d
    map_same zs ws c d s x (inl r) =
        let n = sides_there ts r.t r.reads.read r.v r.reads.sides_are in
        let p = s.one 1 (pos r.t) refl r.named in
        let q = name_is ts us gt gu r.t n.0 (pos r.t) p.0 p.2 refl n.1 in
        inl (read_back_same r.t q.0 ws c d r.C r.h r.K r.v (p.1 ∙ (λ i. pos 1 ∷ q.1 i ∷ [])) q.2 x r.given r.reads)
    map_same zs ws c d s x (inr (inl r)) =
        let n = sides_there ts r.t r.reads.read r.x r.reads.sides_are in
        let m = sides_there ts r.u r.a r.b r.keys_equal in
        let p = s.two (pos r.i) (pos r.t) (pos r.u) r.named in
        let q = name_is ts us gt gu r.t n.0 (pos r.t) p.0 p.3 refl n.1 in
        let o = name_is ts us gt gu r.u m.0 (pos r.u) p.1 p.4 refl m.1 in
        inr (inl (other_key_same r.i r.t r.u q.0 o.0 ws c d r.C r.h r.K r.v r.L r.x r.a r.b (p.2 ∙ (λ i. pos 2 ∷ pos r.i ∷ q.1 i ∷ o.1 i ∷ [])) q.2 o.2 x r.given r.reads r.is_read r.from_one r.stored_key r.read_key r.keys_equal))
    map_same zs ws c d s x (inr (inr r)) =
        let n = sides_there ts r.t r.reads.read r.x r.reads.sides_are in
        let p = s.one 3 (pos r.t) refl r.named in
        let q = name_is ts us gt gu r.t n.0 (pos r.t) p.0 p.2 refl n.1 in
        inr (inr (other_column_same r.t q.0 ws c d r.C r.D r.h r.K r.v r.L r.x (p.1 ∙ (λ i. pos 3 ∷ q.1 i ∷ [])) q.2 x r.given r.reads r.is_read r.unlike))
