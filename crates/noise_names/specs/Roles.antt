-- Facts on the two parties, for proofs of other crates.
use Rattle.std.proofs.Common.{◌≡◌, true, false, refl}
use Rattle.noise_names.specs.declared.token.Role.{Role}
use Rattle.noise_names.specs.declared.token.Role.TheVariants.{Initiator, Responder}
use Rattle.noise_names.specs.Tokens.{other, same_role}

pub other-other : (role : Role) → other (other role) ≡ role
other-other Initiator = refl
other-other Responder = refl

pub same_role-self : (role : Role) → same_role role role ≡ true
same_role-self Initiator = refl
same_role-self Responder = refl

-- the other party isn't this one
pub same_role-other : (role : Role) → same_role (other role) role ≡ false
same_role-other Initiator = refl
same_role-other Responder = refl

pub other-same_role : (role : Role) → same_role role (other role) ≡ false
other-same_role Initiator = refl
other-same_role Responder = refl

-- what the test says of two roles
pub same_role-true : (a b : Role) → same_role a b ≡ true → a ≡ b
same_role-true Initiator Initiator e = refl
same_role-true Initiator Responder e = absurd (cc)
same_role-true Responder Initiator e = absurd (cc)
same_role-true Responder Responder e = refl

pub same_role-false : (a b : Role) → same_role a b ≡ false → a ≡ other b
same_role-false Initiator Initiator e = absurd (cc)
same_role-false Initiator Responder e = refl
same_role-false Responder Initiator e = refl
same_role-false Responder Responder e = absurd (cc)

pub same-same_role : (a b : Role) → a ≡ b → same_role a b ≡ true
same-same_role Initiator Initiator e = refl
same-same_role Initiator Responder e = absurd (cc)
same-same_role Responder Initiator e = absurd (cc)
same-same_role Responder Responder e = refl
