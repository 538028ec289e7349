-- The words of one command are those of no other, and name its names once.
use Rattle.std.proofs.Common.{◌≡◌, ℕ, ◌+◌, Bool, true, false, ◌==◌, if◌then◌else◌, List, [], ◌∷◌, ◌++◌, length, flat_map, codes, decimal, slice_index, refl, ap, sym, ◌∙◌, subst, ne_eqb, arith}
use Rattle.std.proofs.lemmas.List.{length-append}
use Rattle.std.proofs.lemmas.Fmt.{decimal_injective}
use Rattle.vcc_words.specs.Words.{IsName, IsNamedPair, IsCheck, IsGen, IsUpgrade, IsVerify, IsRunCommand, Part, Name, Leaves, LeavesIs, Rounds, RoundsIs, spelling, names}

-- ---- no two commands

-- how long the first word is
first_length : List (List ℕ) → ℕ
first_length [] = 0
first_length (word ∷ words) = length word

pub check_or_verify : (words : List (List ℕ)) (source cert a b : List ℕ) (leaves rounds : ℕ) → IsCheck words source cert → IsVerify words a b leaves rounds → ⊥
unfolding first_length
check_or_verify words source cert a b leaves rounds check verify =
    let both : 5 ≡ 6 = sym (ap first_length check.are) ∙ ap first_length verify.are in
    omega (arith, both)

pub check_or_run : (words : List (List ℕ)) (source cert a b : List ℕ) → IsCheck words source cert → IsRunCommand words a b → ⊥
unfolding first_length
check_or_run words source cert a b check run =
    let both : 5 ≡ 3 = sym (ap first_length check.are) ∙ ap first_length run.are in
    omega (arith, both)

pub verify_or_run : (words : List (List ℕ)) (source cert a b : List ℕ) (leaves rounds : ℕ) → IsVerify words source cert leaves rounds → IsRunCommand words a b → ⊥
unfolding first_length
verify_or_run words source cert a b leaves rounds verify run =
    let both : 6 ≡ 3 = sym (ap first_length verify.are) ∙ ap first_length run.are in
    omega (arith, both)

-- words of a pair aren't a gen
pub pair_or_gen : (command : List ℕ) (words : List (List ℕ)) (a b : List ℕ) (copies : ℕ) → IsNamedPair command words a b → IsGen words copies → ⊥
pair_or_gen command words a b copies pair gen =
    let both : 3 ≡ 2 = sym (ap length pair.are) ∙ ap length gen.are in
    omega (arith, both)

pub verify_or_gen : (words : List (List ℕ)) (source cert : List ℕ) (leaves rounds copies : ℕ) → IsVerify words source cert leaves rounds → IsGen words copies → ⊥
unfolding first_length
verify_or_gen words source cert leaves rounds copies verify gen =
    let both : 6 ≡ 3 = sym (ap first_length verify.are) ∙ ap first_length gen.are in
    omega (arith, both)

-- words of a pair, and those of a gen, are fewer than those of an upgrade
pub pair_or_upgrade : (command : List ℕ) (words : List (List ℕ)) (a b source cert new : List ℕ) → IsNamedPair command words a b → IsUpgrade words source cert new → ⊥
pair_or_upgrade command words a b source cert new pair upgrade =
    let both : 3 ≡ 4 = sym (ap length pair.are) ∙ ap length upgrade.are in
    omega (arith, both)

pub upgrade_or_gen : (words : List (List ℕ)) (source cert new : List ℕ) (copies : ℕ) → IsUpgrade words source cert new → IsGen words copies → ⊥
upgrade_or_gen words source cert new copies upgrade gen =
    let both : 4 ≡ 2 = sym (ap length upgrade.are) ∙ ap length gen.are in
    omega (arith, both)

pub verify_or_upgrade : (words : List (List ℕ)) (a b source cert new : List ℕ) (leaves rounds : ℕ) → IsVerify words a b leaves rounds → IsUpgrade words source cert new → ⊥
unfolding first_length
verify_or_upgrade words a b source cert new leaves rounds verify upgrade =
    let both : 6 ≡ 7 = sym (ap first_length verify.are) ∙ ap first_length upgrade.are in
    omega (arith, both)

-- ---- the names of an upgrade

pub one_upgrade : (words : List (List ℕ)) (source cert new a b c : List ℕ) → IsUpgrade words source cert new → IsUpgrade words a b c → (source ≡ a) × (cert ≡ b) × (new ≡ c)
one_upgrade words source cert new a b c one other =
    let both : codes "upgrade" ∷ source ∷ cert ∷ new ∷ [] ≡ codes "upgrade" ∷ a ∷ b ∷ c ∷ [] = sym one.are ∙ other.are in
    (cc both, cc both, cc both)

-- ---- the number of a gen

pub one_gen : (words : List (List ℕ)) (n k : ℕ) → IsGen words n → IsGen words k → n ≡ k
one_gen words n k one other =
    let both : codes "gen" ∷ decimal n ∷ [] ≡ codes "gen" ∷ decimal k ∷ [] = sym one.are ∙ other.are in
    decimal_injective n k (omega (arith, one.most)) (omega (arith, other.most)) (cc both)

-- ---- the names of a verify

-- the names among words, of which the first may be an option's number
named : Bool → List (List ℕ) → List (List ℕ)
named number [] = []
named true (word ∷ words) = named false words
named false (word ∷ words) = if slice_index word 0 == 45 then named (length word == 8) words else (word ∷ named false words)

-- each is a name
AreNames : List (List ℕ) → Type 0
AreNames [] = Unit {0}
AreNames (word ∷ words) = IsName word × AreNames words

one_word : (option : List ℕ) (n : ℕ) (words : List (List ℕ)) → slice_index (option ++ decimal n) 0 ≡ 45 → length option ≡ 9 → named false ((option ++ decimal n) ∷ words) ≡ named false words
unfolding named
one_word option n words dash nine =
    let long : length (option ++ decimal n) ≡ length option + length (decimal n) = length-append option (decimal n) in
    rw (dash, ne_eqb (length (option ++ decimal n)) 8 (omega (arith, long, nine))) refl

names_read : (ps : List Part) → AreNames (names ps) → named false (flat_map spelling ps) ≡ names ps
unfolding named AreNames
names_read [] all = refl
names_read (Name word ∷ ps) all = rw (ne_eqb (slice_index word 0) 45 all.0.1) (ap (λ (words : List (List ℕ)). word ∷ words) (names_read ps all.1))
names_read (Leaves n ∷ ps) all = names_read ps all
names_read (LeavesIs n ∷ ps) all = one_word (codes "--leaves=") n (flat_map spelling ps) refl refl ∙ names_read ps all
names_read (Rounds n ∷ ps) all = names_read ps all
names_read (RoundsIs n ∷ ps) all = one_word (codes "--rounds=") n (flat_map spelling ps) refl refl ∙ names_read ps all

-- the words behind the first
behind : List (List ℕ) → List (List ℕ)
behind [] = []
behind (word ∷ words) = words

names_of : (words : List (List ℕ)) (source cert : List ℕ) (leaves rounds : ℕ) → IsVerify words source cert leaves rounds → named false (behind words) ≡ source ∷ cert ∷ []
unfolding AreNames behind
names_of words source cert leaves rounds verify =
    let all : AreNames (names verify.parts) = subst AreNames (sym verify.named) (verify.source_name, (verify.cert_name, tt)) in
    ap (λ (ws : List (List ℕ)). named false (behind ws)) verify.are ∙ (names_read verify.parts all ∙ verify.named)

pub one_verify : (words : List (List ℕ)) (source cert a b : List ℕ) (leaves rounds n k : ℕ) → IsVerify words source cert leaves rounds → IsVerify words a b n k → (source ≡ a) × (cert ≡ b)
one_verify words source cert a b leaves rounds n k one other =
    let both : source ∷ cert ∷ [] ≡ a ∷ b ∷ [] = sym (names_of words source cert leaves rounds one) ∙ names_of words a b n k other in
    (cc both, cc both)
