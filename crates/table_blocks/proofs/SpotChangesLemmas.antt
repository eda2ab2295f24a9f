-- What trees do to spots composes.
use Rattle.std.proofs.Common.{refl, ◌∙◌, sym, subst}
use Rattle.mdc_sound.specs.Placing.{AfterClaims, AfterReturns, Spot}
use Rattle.mdc_sound.specs.Placing.Spot.{FreeExtent, IndexExtent, OtherBlock, FreeBlock, PendingBlock, UsedBlock}
use Rattle.table_blocks.specs.BlockChanges.{IsSpotChange, SameSpot}

-- ---- claims

claims_stay : (a : Spot) → AfterClaims a a
claims_stay FreeExtent = refl
claims_stay IndexExtent = refl
claims_stay OtherBlock = refl
claims_stay FreeBlock = refl
claims_stay PendingBlock = refl
claims_stay (UsedBlock slots) = refl

-- a free extent, which may have become one of trees in between
free_goes_on : (b c : Spot) → AfterClaims FreeExtent b → AfterClaims b c → AfterClaims FreeExtent c
free_goes_on FreeExtent c first second = second
free_goes_on IndexExtent c first second = subst (AfterClaims FreeExtent) second tt
free_goes_on OtherBlock c first second = absurd (cc)
free_goes_on FreeBlock c first second = absurd (cc)
free_goes_on PendingBlock c first second = absurd (cc)
free_goes_on (UsedBlock slots) c first second = absurd (cc)

claims_go_on : (a b c : Spot) → AfterClaims a b → AfterClaims b c → AfterClaims a c
claims_go_on FreeExtent b c first second = free_goes_on b c first second
claims_go_on IndexExtent b c first second = subst (λ x. AfterClaims x c) (sym first) second
claims_go_on OtherBlock b c first second = subst (λ x. AfterClaims x c) (sym first) second
claims_go_on FreeBlock b c first second = subst (λ x. AfterClaims x c) (sym first) second
claims_go_on PendingBlock b c first second = subst (λ x. AfterClaims x c) (sym first) second
claims_go_on (UsedBlock slots) b c first second = subst (λ x. AfterClaims x c) (sym first) second

pub claims_change : IsSpotChange AfterClaims
claims_change = record { stays = claims_stay; goes_on = claims_go_on }

-- ---- returns

returns_stay : (a : Spot) → AfterReturns a a
returns_stay FreeExtent = refl
returns_stay IndexExtent = refl
returns_stay OtherBlock = refl
returns_stay FreeBlock = refl
returns_stay PendingBlock = refl
returns_stay (UsedBlock slots) = refl

-- an extent of trees, which they may have given back in between
index_goes_on : (b c : Spot) → AfterReturns IndexExtent b → AfterReturns b c → AfterReturns IndexExtent c
index_goes_on FreeExtent c first second = subst (AfterReturns IndexExtent) second tt
index_goes_on IndexExtent c first second = second
index_goes_on OtherBlock c first second = absurd (cc)
index_goes_on FreeBlock c first second = absurd (cc)
index_goes_on PendingBlock c first second = absurd (cc)
index_goes_on (UsedBlock slots) c first second = absurd (cc)

returns_go_on : (a b c : Spot) → AfterReturns a b → AfterReturns b c → AfterReturns a c
returns_go_on FreeExtent b c first second = subst (λ x. AfterReturns x c) (sym first) second
returns_go_on IndexExtent b c first second = index_goes_on b c first second
returns_go_on OtherBlock b c first second = subst (λ x. AfterReturns x c) (sym first) second
returns_go_on FreeBlock b c first second = subst (λ x. AfterReturns x c) (sym first) second
returns_go_on PendingBlock b c first second = subst (λ x. AfterReturns x c) (sym first) second
returns_go_on (UsedBlock slots) b c first second = subst (λ x. AfterReturns x c) (sym first) second

pub returns_change : IsSpotChange AfterReturns
returns_change = record { stays = returns_stay; goes_on = returns_go_on }

-- ---- none

pub same_change : IsSpotChange SameSpot
same_change = record { stays = λ a. refl; goes_on = λ a b c first second. first ∙ second }
