-- What the definitions give at known patterns, names and texts, by computing.
use Rattle.std.specs.Prelude.{◌≡◌, ℕ, List, [], ◌∷◌, ◌++◌, Option, Some, None, map, find, replicate, codes, refl}
use Rattle.noise_names.specs.declared.token.Token.{Token}
use Rattle.noise_names.specs.declared.token.Token.TheVariants.{E, S, Ee, Es, Se, Ss, Psk}
use Rattle.noise_names.specs.declared.faults.RuleFault.{RuleFault}
use Rattle.noise_names.specs.declared.faults.NameFault.{NameFault}
use Rattle.noise_names.specs.declared.faults.NameFault.TheVariants.{Length, Prefix, Base, Modifier, ModifierOrder, Algorithm}
use Rattle.noise_names.specs.Tokens.{own_tokens}
use Rattle.noise_names.specs.Plan.{Plan}
use Rattle.noise_names.specs.Names.{has_fault, name_bytes, prefix, suffix}
use Rattle.noise_names.specs.Limits.{HavePsksAt, with_psk_tokens}
use Rattle.noise_names.specs.Fundamental.{fundamentals, fundamental_of}
use Rattle.noise_names.specs.Text.{text_of, line}
use Rattle.noise_names.specs.Overhead.{overhead_of}
use Rattle.noise_names.specs.Validity.{first_fault, first_fault_from}

abbrev of : List ℕ → List ℕ → List Token → List Token → List (List Token) → Plan
of base places initiator responder messages =
    record { base = base; places = places; initiator = initiator; responder = responder; messages = messages }

abbrev fault : ℕ → ℕ → ℕ → Option RuleFault
fault rule message token = Some (record { rule = rule; message = message; token = token })

abbrev A : List ℕ
A = codes "A"

-- -> s ... -> e | <- e, se
pub mixes_late : first_fault (of A [] (S ∷ []) [] ((E ∷ []) ∷ (E ∷ Se ∷ []) ∷ [])) ≡ fault 4 3 0
unfolding first_fault_from
mixes_late = refl

-- -> e, ee
pub no_key : first_fault (of A [] [] [] ((E ∷ Ee ∷ []) ∷ [])) ≡ fault 1 1 1
unfolding first_fault_from
no_key = refl

-- -> e | <- e, ee, ee
pub twice : first_fault (of A [] [] [] ((E ∷ []) ∷ (E ∷ Ee ∷ Ee ∷ []) ∷ [])) ≡ fault 3 2 2
unfolding first_fault_from
twice = refl

-- -> psk, s
pub psk_alone : first_fault (of A (0 ∷ []) [] [] ((Psk ∷ S ∷ []) ∷ [])) ≡ fault 5 1 1
unfolding first_fault_from
psk_alone = refl

-- -> psk, s, e
pub psk_early : first_fault (of A (0 ∷ []) [] [] ((Psk ∷ S ∷ E ∷ []) ∷ [])) ≡ fault 5 1 1
unfolding first_fault_from
psk_early = refl

-- -> e, e
pub two_keys : first_fault (of A [] [] [] ((E ∷ E ∷ []) ∷ [])) ≡ fault 2 1 1
unfolding first_fault_from
two_keys = refl

-- the fundamental patterns have no fault
pub fifteen : map first_fault fundamentals ≡ replicate 15 None
unfolding fundamentals first_fault_from
fifteen = refl

abbrev NN : List Token → Plan
NN first = of (codes "NN") [] [] [] (first ∷ (E ∷ Ee ∷ []) ∷ [])

abbrev XX : List Token → Plan
XX more = of (codes "XX") [] [] [] ((E ∷ []) ∷ (E ∷ Ee ∷ S ∷ Es ∷ []) ∷ (S ∷ Se ∷ more) ∷ [])

abbrev IN : List Token → Plan
IN more = of (codes "IN") [] [] [] ((E ∷ S ∷ more) ∷ (E ∷ Ee ∷ Se ∷ []) ∷ [])

abbrev IK : List Token → Plan
IK more = of (codes "IK") [] [] (S ∷ []) ((E ∷ Es ∷ S ∷ Ss ∷ []) ∷ (E ∷ Ee ∷ Se ∷ more) ∷ [])

abbrev overheads : Plan → List ℕ → List ℕ
overheads plan ns = map (overhead_of plan) ns

abbrev one_two : List ℕ
one_two = 1 ∷ 2 ∷ []

pub XX-overheads : overheads (XX []) (1 ∷ 2 ∷ 3 ∷ []) ≡ 32 ∷ 96 ∷ 64 ∷ []
XX-overheads = refl

pub XXpsk3-overheads : overheads (XX (Psk ∷ [])) (1 ∷ 2 ∷ 3 ∷ []) ≡ 48 ∷ 96 ∷ 64 ∷ []
XXpsk3-overheads = refl

pub N-overheads : overheads (of (codes "N") [] [] (S ∷ []) ((E ∷ Es ∷ []) ∷ [])) (1 ∷ []) ≡ 48 ∷ []
N-overheads = refl

pub IK-overheads : overheads (IK []) one_two ≡ 96 ∷ 48 ∷ []
IK-overheads = refl

pub IKpsk2-overheads : overheads (IK (Psk ∷ [])) one_two ≡ 96 ∷ 48 ∷ []
IKpsk2-overheads = refl

pub IN-overheads : overheads (IN []) one_two ≡ 64 ∷ 48 ∷ []
IN-overheads = refl

pub INpsk1-overheads : overheads (IN (Psk ∷ [])) one_two ≡ 96 ∷ 48 ∷ []
INpsk1-overheads = refl

pub NNpsk0-overheads : overheads (NN (Psk ∷ E ∷ [])) one_two ≡ 48 ∷ 48 ∷ []
NNpsk0-overheads = refl

-- -> s of the responder before the messages, -> e | <- e, ee, es
pub NK1-overheads :
    overheads (of (codes "NK1") [] [] (S ∷ []) ((E ∷ []) ∷ (E ∷ Ee ∷ Es ∷ []) ∷ [])) one_two ≡ 32 ∷ 48 ∷ []
NK1-overheads = refl

-- the text of IKpsk2
pub IKpsk2-text :
    text_of (of (codes "IK") (2 ∷ []) [] (S ∷ []) ((E ∷ Es ∷ S ∷ Ss ∷ []) ∷ (E ∷ Ee ∷ Se ∷ Psk ∷ []) ∷ []))
    ≡ line (codes "IKpsk2:") ++ line (codes "  <- s") ++ line (codes "  ...")
    ++ line (codes "  -> e, es, s, ss") ++ line (codes "  <- e, ee, se, psk")
IKpsk2-text = refl

pub XXpsk0-psk3-text :
    text_of (of (codes "XX") (0 ∷ 3 ∷ []) [] [] ((Psk ∷ E ∷ []) ∷ (E ∷ Ee ∷ S ∷ Es ∷ []) ∷ (S ∷ Se ∷ Psk ∷ []) ∷ []))
    ≡ line (codes "XXpsk0+psk3:") ++ line (codes "  -> psk, e")
    ++ line (codes "  <- e, ee, s, es") ++ line (codes "  -> s, se, psk")
XXpsk0-psk3-text = refl

-- the messages of XXpsk0+psk3 are those of XX with psk tokens there
pub XXpsk0-psk3-placed :
    HavePsksAt (0 ∷ 3 ∷ []) 1 ((Psk ∷ E ∷ []) ∷ (E ∷ Ee ∷ S ∷ Es ∷ []) ∷ (S ∷ Se ∷ Psk ∷ []) ∷ [])
XXpsk0-psk3-placed = (refl, (refl, (refl, tt)))

-- the fundamental pattern of that base
pub NN-known : fundamental_of (codes "NN") ≡ Some (NN (E ∷ []))
unfolding fundamentals fundamental_of
NN-known = refl

-- the psk token of place 1 is at the end of message 1
pub A-psk : with_psk_tokens (1 ∷ []) 1 (own_tokens (Psk ∷ E ∷ [])) ≡ E ∷ Psk ∷ []
A-psk = refl

-- the faults of names
abbrev faults : List NameFault
faults = Length ∷ Prefix ∷ Base ∷ Modifier ∷ ModifierOrder ∷ Algorithm ∷ []

abbrev first_name_fault : List ℕ → Option NameFault
first_name_fault bytes = find (has_fault bytes) faults

abbrev in_name : List ℕ → List ℕ
in_name section = prefix ++ section ++ suffix

pub name_faults :
    map (λ section. first_name_fault (in_name section))
    (codes "XXpsk3+psk0" ∷ codes "XXpsk0+psk0" ∷ codes "XXfallback" ∷ codes "XX+psk0" ∷ codes "XXpsk9"
    ∷ codes "XXpsk0+" ∷ codes "xx" ∷ codes "8X" ∷ [] ∷ codes "ABCDEFGHI" ∷ [])
    ≡ Some ModifierOrder ∷ Some ModifierOrder ∷ Some Modifier ∷ Some Modifier ∷ Some Modifier
    ∷ Some Modifier ∷ Some Base ∷ Some Base ∷ Some Base ∷ Some Base ∷ []
name_faults = refl

pub AESGCM-fault : first_name_fault (codes "Noise_XX_25519_AESGCM_SHA256") ≡ Some Algorithm
AESGCM-fault = refl

pub no_prefix : first_name_fault (codes "noise_xx") ≡ Some Prefix
no_prefix = refl

pub no_suffix : first_name_fault (codes "Noise_XX") ≡ Some Algorithm
no_suffix = refl

pub XXpsk4-named : map first_name_fault
    (in_name (codes "XXpsk4") ∷ in_name (codes "NN")
    ∷ in_name (codes "A1B2C3D4psk0+psk1+psk2+psk3+psk4+psk5+psk6+psk7+psk8") ∷ []) ≡ None ∷ None ∷ None ∷ []
XXpsk4-named = refl

pub XXpsk3-psk8-name :
    name_bytes (record { base = codes "XX"; places = 3 ∷ 8 ∷ [] }) ≡ codes "Noise_XXpsk3+psk8_25519_ChaChaPoly_SHA256"
XXpsk3-psk8-name = refl
