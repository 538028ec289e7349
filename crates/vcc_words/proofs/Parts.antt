-- What `verify` is by its parts and what it is by its pieces.
use Rattle.std.proofs.Common.{arith, length, slice_index, ◌<◌, ◌≤◌, ◌^◌, suc, ◌≡◌, ℕ, List, [], ◌∷◌, ◌++◌, map, flat_map, codes, Option, Some, None, refl, sym, ap, subst, ◌∙◌, inl, inr, IfOk, Result}
use Rattle.std.specs.Prelude.{decimal, option_to_list}
use Rattle.decimal_text.proofs.Numbers.{decimal_leads}
use Rattle.decimal_text.proofs.Words.{digit_least}
use Rattle.vcc_words.specs.Words as w
use Rattle.vcc_words.specs.Words.{IsName, IsNoCommand, IsSetting, IsVerify, Reads, spelling}
use Rattle.vcc_words.specs.Arguments.{Piece, Name, Leaves, Rounds, Are, Every, IsOption, names_in, leaves_in, rounds_in, text_of, AreArguments, IsValue, Asks, IsNoVerify, Demands, ReadsArguments, ReadsSearch, Verifies}
use Rattle.vcc_words.specs.declared.arguments.Arguments.{Arguments}
use Rattle.vcc_words.specs.declared.command.Command.{Command}
use Rattle.vcc_words.specs.declared.command.Search.{Search}
use Rattle.vcc_words.proofs.Pieces.{are_one}

-- ---- from parts to pieces

piece : w.Part → Piece
piece (w.Name word) = Name word
piece (w.Leaves n) = Leaves (decimal n)
piece (w.LeavesIs n) = Leaves (decimal n)
piece (w.Rounds n) = Rounds (decimal n)
piece (w.RoundsIs n) = Rounds (decimal n)

-- a number is no option
abbrev IsWide : ℕ → Type 0
IsWide n = n < 10 ^ 64

decimal_name : (n : ℕ) → IsWide n → IsName (decimal n)
decimal_name n wide =
    let d = decimal_leads n wide in
    let first : slice_index (decimal n) 0 ≡ d.0 = ap (λ (t : List ℕ). slice_index t 0) d.2 in
    let some : length (decimal n) ≡ suc (length d.1) = ap length d.2 in
    (omega arith, λ e. omega (arith, digit_least d.0 d.3))

are_pieces : (ps : List w.Part) → Every IsName (w.names ps) → Every IsWide (w.leaves ps) → Every IsWide (w.rounds ps) → Are (flat_map spelling ps) (map piece ps)
unfolding piece
are_pieces [] h l r = refl
are_pieces (w.Name word ∷ ps) h l r = (flat_map spelling ps, (refl, h.0), are_pieces ps h.1 l r)
are_pieces (w.Leaves n ∷ ps) h l r = (flat_map spelling ps, inl (refl, decimal_name n l.0), are_pieces ps h l.1 r)
are_pieces (w.LeavesIs n ∷ ps) h l r = (flat_map spelling ps, inr refl, are_pieces ps h l.1 r)
are_pieces (w.Rounds n ∷ ps) h l r = (flat_map spelling ps, inl (refl, decimal_name n r.0), are_pieces ps h l r.1)
are_pieces (w.RoundsIs n ∷ ps) h l r = (flat_map spelling ps, inr refl, are_pieces ps h l r.1)

wide_of : (numbers : List ℕ) (least most default n : ℕ) → most ≤ 1000000 → IsSetting numbers least most default n → Every IsWide numbers
wide_of numbers least most default n le s =
    elim s [
      | inl h ↦ subst (λ (ns : List ℕ). Every IsWide ns) (sym h.0) tt
      | inr h ↦ let small : n < 10 ^ 64 = omega (arith, h.2) in subst (λ (ns : List ℕ). Every IsWide ns) (sym h.0) (small, tt)
    ]

names_same : (ps : List w.Part) → names_in (map piece ps) ≡ w.names ps
unfolding piece
names_same [] = refl
names_same (w.Name word ∷ ps) = ap (λ (ns : List (List ℕ)). word ∷ ns) (names_same ps)
names_same (w.Leaves n ∷ ps) = names_same ps
names_same (w.LeavesIs n ∷ ps) = names_same ps
names_same (w.Rounds n ∷ ps) = names_same ps
names_same (w.RoundsIs n ∷ ps) = names_same ps

leaves_same : (ps : List w.Part) → leaves_in (map piece ps) ≡ map decimal (w.leaves ps)
unfolding piece
leaves_same [] = refl
leaves_same (w.Name word ∷ ps) = leaves_same ps
leaves_same (w.Leaves n ∷ ps) = ap (λ (ts : List (List ℕ)). decimal n ∷ ts) (leaves_same ps)
leaves_same (w.LeavesIs n ∷ ps) = ap (λ (ts : List (List ℕ)). decimal n ∷ ts) (leaves_same ps)
leaves_same (w.Rounds n ∷ ps) = leaves_same ps
leaves_same (w.RoundsIs n ∷ ps) = leaves_same ps

rounds_same : (ps : List w.Part) → rounds_in (map piece ps) ≡ map decimal (w.rounds ps)
unfolding piece
rounds_same [] = refl
rounds_same (w.Name word ∷ ps) = rounds_same ps
rounds_same (w.Leaves n ∷ ps) = rounds_same ps
rounds_same (w.LeavesIs n ∷ ps) = rounds_same ps
rounds_same (w.Rounds n ∷ ps) = ap (λ (ts : List (List ℕ)). decimal n ∷ ts) (rounds_same ps)
rounds_same (w.RoundsIs n ∷ ps) = ap (λ (ts : List (List ℕ)). decimal n ∷ ts) (rounds_same ps)

value_of : (numbers : List ℕ) (least most default n : ℕ) → IsSetting numbers least most default n → (t : Option (List ℕ)) × (map decimal numbers ≡ option_to_list t) × IsValue t least most default n
value_of numbers least most default n s =
    elim s [
      | inl h ↦ (None, ap (map decimal) h.0, h.1)
      | inr h ↦ (Some (decimal n), ap (map decimal) h.0, (refl, h.1, h.2))
    ]

-- the arguments of a `verify`, and what they ask
record Split (rest : List (List ℕ)) (source cert : List ℕ) (leaf_count round_count : ℕ) : Type 0 where
  pub leaves : Option (List ℕ)
  pub rounds : Option (List ℕ)
  pub arguments : AreArguments rest source cert leaves rounds
  pub asks : Asks source cert leaves rounds leaf_count round_count

split : (rest : List (List ℕ)) (source cert : List ℕ) (l r : ℕ) → IsVerify (codes "verify" ∷ rest) source cert l r → Split rest source cert l r
split rest source cert l r v =
    let leaves = value_of (w.leaves v.parts) 1 1000000 100000 l v.leaves_set in
    let rounds = value_of (w.rounds v.parts) 0 1000 64 r v.rounds_set in
    let good : Every IsName (w.names v.parts) = subst (λ (ns : List (List ℕ)). Every IsName ns) (sym v.named) (v.source_name, (v.cert_name, tt)) in
    let same : rest ≡ flat_map spelling v.parts = let e = v.are in cc in
    record {
      leaves = leaves.0;
      rounds = rounds.0;
      arguments = record {
        pieces = map piece v.parts;
        are = subst (λ (ws : List (List ℕ)). Are ws (map piece v.parts)) (sym same) (are_pieces v.parts good (wide_of (w.leaves v.parts) 1 1000000 100000 l (omega arith) v.leaves_set) (wide_of (w.rounds v.parts) 0 1000 64 r (omega arith) v.rounds_set));
        names = names_same v.parts ∙ v.named;
        leaves_once = leaves_same v.parts ∙ leaves.1;
        rounds_once = rounds_same v.parts ∙ rounds.1;
      };
      asks = record { differ = v.differ; leaves_value = leaves.2; rounds_value = rounds.2 };
    }

-- ---- from pieces to parts

-- the words are parts with these numbers, and have the names and as many numbers as the pieces
record IsSpelt (ws : List (List ℕ)) (ps : List Piece) (l r : ℕ) : Type 0 where
  pub parts : List w.Part
  pub are : ws ≡ flat_map spelling parts
  pub names : w.names parts ≡ names_in ps
  pub leaves : w.leaves parts ≡ map (λ _. l) (leaves_in ps)
  pub rounds : w.rounds parts ≡ map (λ _. r) (rounds_in ps)

abbrev IsText : ℕ → List ℕ → Type 0
IsText n t = t ≡ decimal n

leaves_spelt : (ws rest : List (List ℕ)) (t : List ℕ) (ps : List Piece) (l r : ℕ) → IsOption (codes "--leaves") ws t rest → t ≡ decimal l → IsSpelt rest ps l r → IsSpelt ws (Leaves t ∷ ps) l r
leaves_spelt ws rest t ps l r is e m =
    elim is [
      | inl a ↦ record {
        parts = w.Leaves l ∷ m.parts;
        are = a.0 ∙ ap (λ (x : List ℕ). codes "--leaves" ∷ x ∷ rest) e ∙ ap (λ (x : List (List ℕ)). codes "--leaves" ∷ decimal l ∷ x) m.are;
        names = m.names;
        leaves = ap (λ (x : List ℕ). l ∷ x) m.leaves;
        rounds = m.rounds;
      }
      | inr j ↦ record {
        parts = w.LeavesIs l ∷ m.parts;
        are = j ∙ ap (λ (x : List ℕ). (codes "--leaves" ++ 61 ∷ x) ∷ rest) e ∙ ap (λ (x : List (List ℕ)). (codes "--leaves=" ++ decimal l) ∷ x) m.are;
        names = m.names;
        leaves = ap (λ (x : List ℕ). l ∷ x) m.leaves;
        rounds = m.rounds;
      }
    ]

rounds_spelt : (ws rest : List (List ℕ)) (t : List ℕ) (ps : List Piece) (l r : ℕ) → IsOption (codes "--rounds") ws t rest → t ≡ decimal r → IsSpelt rest ps l r → IsSpelt ws (Rounds t ∷ ps) l r
rounds_spelt ws rest t ps l r is e m =
    elim is [
      | inl a ↦ record {
        parts = w.Rounds r ∷ m.parts;
        are = a.0 ∙ ap (λ (x : List ℕ). codes "--rounds" ∷ x ∷ rest) e ∙ ap (λ (x : List (List ℕ)). codes "--rounds" ∷ decimal r ∷ x) m.are;
        names = m.names;
        leaves = m.leaves;
        rounds = ap (λ (x : List ℕ). r ∷ x) m.rounds;
      }
      | inr j ↦ record {
        parts = w.RoundsIs r ∷ m.parts;
        are = j ∙ ap (λ (x : List ℕ). (codes "--rounds" ++ 61 ∷ x) ∷ rest) e ∙ ap (λ (x : List (List ℕ)). (codes "--rounds=" ++ decimal r) ∷ x) m.are;
        names = m.names;
        leaves = m.leaves;
        rounds = ap (λ (x : List ℕ). r ∷ x) m.rounds;
      }
    ]

name_spelt : (ws rest : List (List ℕ)) (word : List ℕ) (ps : List Piece) (l r : ℕ) → ws ≡ word ∷ rest → IsSpelt rest ps l r → IsSpelt ws (Name word ∷ ps) l r
name_spelt ws rest word ps l r e m = record {
  parts = w.Name word ∷ m.parts;
  are = e ∙ ap (λ (x : List (List ℕ)). word ∷ x) m.are;
  names = ap (λ (x : List (List ℕ)). word ∷ x) m.names;
  leaves = m.leaves;
  rounds = m.rounds;
}

spelt : (ws : List (List ℕ)) (ps : List Piece) (l r : ℕ) → Are ws ps → Every (IsText l) (leaves_in ps) → Every (IsText r) (rounds_in ps) → IsSpelt ws ps l r
spelt ws [] l r a hl hr = record { parts = []; are = a; names = refl; leaves = refl; rounds = refl }
spelt ws (Name word ∷ ps) l r a hl hr = name_spelt ws a.0 word ps l r a.1.0 (spelt a.0 ps l r a.2 hl hr)
spelt ws (Leaves t ∷ ps) l r a hl hr = leaves_spelt ws a.0 t ps l r a.1 hl.0 (spelt a.0 ps l r a.2 hl.1 hr)
spelt ws (Rounds t ∷ ps) l r a hl hr = rounds_spelt ws a.0 t ps l r a.1 hr.0 (spelt a.0 ps l r a.2 hl hr.1)

names_good : (ws : List (List ℕ)) (ps : List Piece) → Are ws ps → Every IsName (names_in ps)
names_good ws [] a = tt
names_good ws (Name word ∷ ps) a = (a.1.1, names_good a.0 ps a.2)
names_good ws (Leaves t ∷ ps) a = names_good a.0 ps a.2
names_good ws (Rounds t ∷ ps) a = names_good a.0 ps a.2

texts_are : (t : Option (List ℕ)) (least most default n : ℕ) → IsValue t least most default n → Every (IsText n) (option_to_list t)
texts_are None least most default n v = tt
texts_are (Some t) least most default n v = (v.0, tt)

setting : (t : Option (List ℕ)) (least most default n : ℕ) → IsValue t least most default n → IsSetting (map (λ _. n) (option_to_list t)) least most default n
setting None least most default n v = inl (refl, v)
setting (Some t) least most default n v = inr (refl, v.1, v.2)

join : (rest : List (List ℕ)) (source cert : List ℕ) (leaves rounds : Option (List ℕ)) (l r : ℕ) → AreArguments rest source cert leaves rounds → Asks source cert leaves rounds l r → IsVerify (codes "verify" ∷ rest) source cert l r
join rest source cert leaves rounds l r a q =
    let hl : Every (IsText l) (leaves_in a.pieces) = subst (λ (ts : List (List ℕ)). Every (IsText l) ts) (sym a.leaves_once) (texts_are leaves 1 1000000 100000 l q.leaves_value) in
    let hr : Every (IsText r) (rounds_in a.pieces) = subst (λ (ts : List (List ℕ)). Every (IsText r) ts) (sym a.rounds_once) (texts_are rounds 0 1000 64 r q.rounds_value) in
    let m = spelt rest a.pieces l r a.are hl hr in
    let good : Every IsName (source ∷ cert ∷ []) = subst (λ (ns : List (List ℕ)). Every IsName ns) a.names (names_good rest a.pieces a.are) in
    record {
      parts = m.parts;
      are = ap (λ (ws : List (List ℕ)). codes "verify" ∷ ws) m.are;
      named = m.names ∙ a.names;
      source_name = good.0;
      cert_name = good.1.0;
      differ = q.differ;
      leaves_set = subst (λ (ns : List ℕ). IsSetting ns 1 1000000 100000 l) (sym (m.leaves ∙ ap (map (λ _. l)) a.leaves_once)) (setting leaves 1 1000000 100000 l q.leaves_value);
      rounds_set = subst (λ (ns : List ℕ). IsSetting ns 0 1000 64 r) (sym (m.rounds ∙ ap (map (λ _. r)) a.rounds_once)) (setting rounds 0 1000 64 r q.rounds_value);
    }

-- ---- arguments are determined

same_option : (x y : Option (List ℕ)) → option_to_list x ≡ option_to_list y → x ≡ y
same_option None None e = refl
same_option None (Some y) e = absurd cc
same_option (Some x) None e = absurd cc
same_option (Some x) (Some y) e = let f : x ≡ y = cc in ap Some f

asks_same : (source cert s c : List ℕ) (leaves rounds lt rt : Option (List ℕ)) (l r : ℕ) → s ≡ source → c ≡ cert → lt ≡ leaves → rt ≡ rounds → Asks s c lt rt l r → Asks source cert leaves rounds l r
asks_same source cert s c leaves rounds lt rt l r e f g h q = record {
  differ = λ d. q.differ (e ∙ d ∙ sym f);
  leaves_value = subst (λ (t : Option (List ℕ)). IsValue t 1 1000000 100000 l) g q.leaves_value;
  rounds_value = subst (λ (t : Option (List ℕ)). IsValue t 0 1000 64 r) h q.rounds_value;
}

-- what these arguments ask is what any others of the words ask
asks_one : (rest : List (List ℕ)) (source cert s c : List ℕ) (leaves rounds lt rt : Option (List ℕ)) (l r : ℕ) → AreArguments rest source cert leaves rounds → AreArguments rest s c lt rt → Asks s c lt rt l r → Asks source cert leaves rounds l r
asks_one rest source cert s c leaves rounds lt rt l r a b q =
    let one = are_one rest b.pieces a.pieces b.are a.are in
    let names : s ∷ c ∷ [] ≡ source ∷ cert ∷ [] = sym b.names ∙ ap names_in one ∙ a.names in
    let first : s ≡ source = cc in
    let second : c ≡ cert = cc in
    let leaves_same = same_option lt leaves (sym b.leaves_once ∙ ap leaves_in one ∙ a.leaves_once) in
    let rounds_same = same_option rt rounds (sym b.rounds_once ∙ ap rounds_in one ∙ a.rounds_once) in
    asks_same source cert s c leaves rounds lt rt l r first second leaves_same rounds_same q

-- ---- what `verify` is to search

pub words_behind : (ws rest : List (List ℕ)) (word : List ℕ) → ws ≡ word ∷ rest → word ≡ codes "verify" → ws ≡ codes "verify" ∷ rest
words_behind ws rest word e is = e ∙ ap (λ (x : List ℕ). x ∷ rest) is

-- by the arguments that the words behind `verify` are
pub searches : (rest : List (List ℕ)) (a : Option Arguments) (o : Option Search) → ReadsArguments rest a → Demands a o → ReadsSearch (codes "verify" ∷ rest) o
searches rest None None none asked = λ source cert l r v. let s = split rest source cert l r v in none source cert s.leaves s.rounds s.arguments
searches rest None (Some x) none asked = absurd cc
searches rest (Some a) None these none = λ source cert l r v.
    let s = split rest source cert l r v in
    none l r (asks_one rest a.source.now a.cert.now source cert (text_of a.leaves) (text_of a.rounds) s.leaves s.rounds l r these s.arguments s.asks)
searches rest (Some a) (Some x) these q =
    let v = join rest a.source.now a.cert.now (text_of a.leaves) (text_of a.rounds) x.leaves x.rounds these q.asks in
    subst (λ (y : List ℕ). IsVerify (codes "verify" ∷ rest) x.source.now y x.leaves x.rounds) (sym q.cert) (subst (λ (y : List ℕ). IsVerify (codes "verify" ∷ rest) y a.cert.now x.leaves x.rounds) (sym q.source) v)

-- a search behind `verify` is one of all words
pub as_verify : {E : Type 0} (ws rest : List (List ℕ)) (r : Result (Option Search) E) → ws ≡ codes "verify" ∷ rest → IfOk r (ReadsSearch (codes "verify" ∷ rest)) → IfOk r (ReadsSearch ws)
as_verify ws rest r e h = subst (λ (x : List (List ℕ)). IfOk r (ReadsSearch x)) (sym e) h

-- the command of a search that is read last
pub reads_last : (ws : List (List ℕ)) (o : Option Search) (r : Option Command) → ReadsSearch ws o → Verifies o r → (IsNoVerify ws → IsNoCommand ws) → Reads ws r
reads_last ws None r none is others = subst (Reads ws) (sym is) (others none)
reads_last ws (Some search) r verify is others = subst (Reads ws) (sym is) verify
