-- Worked rows: owner approval, and a claim's exact set. Each is a text with the number of its first broken rule, which stands at the first word of the second part, or one that breaks none.
use Rattle.std.specs.Prelude.{Bool, true, List, [], ◌∷◌}
use Rattle.std.specs.List.{list_all}
use Rattle.std.proofs.Common.{◌≡◌, refl}
use Rattle.ebnf.specs.Sets.{first, first_rule, low, low_rule, is_empty}
use Rattle.ebnf.specs.Reading.{read, links, climbs, read_rule, reads}
use Rattle.typing_spec.specs.Reading.{breaks, types}

-- rule 25: `\approves` is the whole of an invariant of a type, and names a volatile field of it
abbrev approvals : List Bool
approvals =
    types "struct F { volatile int a ; _( invariant \\approves ( \\this -> \\owner , a ) ) } ; void main ( ) { }" ∷
    types "struct F { volatile int a ; _( invariant ( ( \\approves ( \\this -> \\owner , a ) ) ) ) } ; void main ( ) { }" ∷
    types "struct F { volatile int a ; _( invariant \\approves ( \\this -> \\owner , a ) ) _( invariant \\approves ( \\this -> \\owner , a ) ) } ; void main ( ) { }" ∷
    types "struct F { _( invariant \\approves ( \\this -> \\owner , a ) ) volatile int a ; _( invariant a == 0 ) } ; void main ( ) { }" ∷
    types "struct F { _( ghost volatile int a ; ) _( invariant \\approves ( \\this -> \\owner , a ) ) } ; void main ( ) { }" ∷
    breaks 25 "struct F { int a ; _( invariant" "\\approves ( \\this -> \\owner , a ) ) } ; void main ( ) { }" ∷
    breaks 25 "struct F { int a ; _( invariant (" "\\approves ( \\this -> \\owner , a ) ) ) } ; void main ( ) { }" ∷
    breaks 25 "struct F { volatile int a ; _( invariant" "\\approves ( \\this -> \\owner , b ) ) } ; void main ( ) { }" ∷
    breaks 25 "struct G { volatile int b ; } ; struct F { volatile int a ; _( invariant" "\\approves ( \\this -> \\owner , b ) ) } ; void main ( ) { }" ∷
    breaks 25 "struct F { volatile int a ; _( invariant a == 0 &&" "\\approves ( \\this -> \\owner , a ) ) } ; void main ( ) { }" ∷
    breaks 25 "struct F { volatile int a ; _( invariant a == 0 ==>" "\\approves ( \\this -> \\owner , a ) ) } ; void main ( ) { }" ∷
    breaks 25 "struct F { volatile int a ; _( invariant \\old (" "\\approves ( \\this -> \\owner , a ) ) ) } ; void main ( ) { }" ∷
    breaks 25 "struct F { volatile int a ; } ; void main ( struct F * p ) { while ( 1 ) _( invariant" "\\approves ( \\this -> \\owner , a ) ) ; }" ∷
    breaks 25 "struct F { volatile int a ; } ; void main ( struct F * p ) { _( assert" "\\approves ( \\this -> \\owner , a ) ) }" ∷
    breaks 25 "struct F { volatile int a ; } ; void main ( struct F * p ) _( requires" "\\approves ( \\this -> \\owner , a ) ) { }" ∷
    []

approvals_hold : list_all (λ b. b) approvals ≡ true
unfolding reads read links climbs read_rule first first_rule low low_rule is_empty
approvals_hold = refl

-- rules 4 and 20: what `\claims_only` takes, and where it may stand
abbrev exact_sets : List Bool
exact_sets =
    types "struct A { int v ; } ; void main ( struct A * p _( ghost \\claim c ) ) { _( assert \\claims_only ( c , p ) ) }" ∷
    types "struct A { int v ; } ; void main ( struct A * p _( ghost \\claim c ) ) { _( assert \\claims_only ( c ) ) }" ∷
    types "struct A { int v ; } ; void main ( struct A * p _( ghost \\claim c ) ) { _( assert \\claims_only ( c , p , p , NULL , c , \\me ) ) }" ∷
    types "struct A { int v ; } ; void main ( struct A * p _( ghost \\claim c ) ) { _( assert ! \\claims_only ( c , p ) || \\claims_only ( c ) ) }" ∷
    types "struct A { int v ; } ; void f ( struct A * p _( ghost \\claim c ) ) _( requires \\claims_only ( c , p ) ) _( ensures \\old ( \\claims_only ( c , p ) ) && \\unchanged ( \\claims_only ( c ) ) ) _( maintains \\claims_only ( c , p ) ) { } void main ( ) { }" ∷
    types "struct A { int v ; } ; void main ( struct A * p _( ghost \\claim c ) ) { while ( 1 ) _( invariant \\claims_only ( c , p ) ) ; }" ∷
    types "struct A { int v ; _( ghost \\claim c ; ) _( invariant \\claims_only ( c , \\this ) ) } ; void main ( ) { }" ∷
    types "struct A { int v ; } ; void main ( struct A * p _( ghost \\claim c ) ) { _( assert \\forall struct A * q ; q \\in p -> \\owns ==> \\claims_only ( c , q ) ) }" ∷
    breaks 4 "struct A { int v ; } ; void main ( struct A * p _( ghost \\claim c ) ) { _( assert \\claims_only (" "p , p ) ) }" ∷
    breaks 4 "struct A { int v ; } ; void main ( struct A * p _( ghost \\object o ) ) { _( assert \\claims_only (" "o , p ) ) }" ∷
    breaks 4 "struct A { int v ; } ; void main ( struct A * p _( ghost \\claim c ) ) { _( assert \\claims_only (" "p -> v ) ) }" ∷
    breaks 4 "struct A { int v ; } ; void main ( struct A * p _( ghost \\claim c ) ) { _( assert \\claims_only ( c ," "1 ) ) }" ∷
    breaks 4 "struct A { int v ; } ; void main ( struct A * p _( ghost \\claim c ) ) { _( assert \\claims_only ( c , p ," "p -> v ) ) }" ∷
    breaks 20 "_( claimable ) struct A { int v ; } ; void main ( struct A * p _( ghost \\claim c ) ) { _( ghost \\claim d = \\make_claim ( { p } ," "\\claims_only ( c , p ) ) ; ) }" ∷
    breaks 20 "_( claimable ) struct A { int v ; } ; void main ( struct A * p _( ghost \\claim c ) ) { _( ghost \\claim d = \\make_claim ( { p } , p -> v == 0 && !" "\\claims_only ( c ) ) ; ) }" ∷
    breaks 20 "struct A { int v ; } ; void main ( struct A * p _( ghost \\claim c ) ) { _( assert \\claims ( c ," "\\claims_only ( c , p ) ) ) }" ∷
    []

exact_sets_hold : list_all (λ b. b) exact_sets ≡ true
unfolding reads read links climbs read_rule first first_rule low low_rule is_empty
exact_sets_hold = refl
