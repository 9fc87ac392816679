-- The start of a handshake.
use Rattle.std.proofs.Common.{◌≡◌, ◌≤◌, ◌⊎◌, ◌↔◌, inl, inr, ℕ, List, true, false, sym, subst, ◌∙◌, ap, refl, arith}
use Rattle.std.specs.Prelude.{Ok, Err, length, ◌++◌}
use Rattle.noise_c.proofs.Common.{Result, Option, Some, None, MatchOption, IsOk, IfOk, nat_lt, nat_tests, Plan, IsValid, HandshakeValue, Table, Party, IsParty, with_later, NoiseHandshake, pairs_in, public_in, agreement_in, text_from_c, handshake_from_c, KeepsParty, IsPatternOf, IsPatternFault, IsNoName, IsNoText, IsNotValid, is_text, IsStartCode, fault_in, code_of, start_code, Remote, party_at_start, setup_fault, Role, setup_code}
use Rattle.noise_c.specs.declared.structs.NoiseSetup.{NoiseSetup}
use Rattle.noise_keys.specs.declared.faults.SetupFault.{SetupFault}
use Rattle.noise_keys.specs.declared.faults.SetupFault.TheVariants as setup

kinds : (bytes : List ℕ) → is_text bytes ≡ true → is_text bytes ≡ false → ⊥
kinds bytes a b = cc

pub fault-name : (bytes : List ℕ) (code : ℕ) → IsPatternFault bytes code → (code ≡ 1) ↔ IsNoName bytes
fault-name bytes code (inl a) = (λ e. a.1, λ h. a.0)
fault-name bytes code (inr (b, inl a)) = (λ e. absurd (omega (arith, b, e)), λ h. absurd (kinds bytes a.text h.name))
fault-name bytes code (inr (b, inr a)) = (λ e. absurd (omega (arith, b, e)), λ h. absurd (h.none a.pattern a.named))

pub fault-pattern : (bytes : List ℕ) (code : ℕ) → IsPatternFault bytes code → (code ≡ 2) ↔ (IsNoText bytes ⊎ IsNotValid bytes)
fault-pattern bytes code (inr a) = (λ e. a.1, λ h. a.0)
fault-pattern bytes code (inl (b, n)) = (λ e. absurd (omega (arith, b, e)), λ h. absurd (not-both h)) where
  not-both : IsNoText bytes ⊎ IsNotValid bytes → ⊥
  not-both (inl t) = kinds bytes t.text n.name
  not-both (inr t) = n.none t.pattern t.named

pub fault-code : (bytes : List ℕ) (code : ℕ) → IsPatternFault bytes code → (code ≡ 1) ⊎ (code ≡ 2)
fault-code bytes code (inl a) = inl a.0
fault-code bytes code (inr a) = inr a.0

pub fault-start : (code : ℕ) → (code ≡ 1) ⊎ (code ≡ 2) → IsStartCode code
fault-start code (inl a) = inr (inl a)
fault-start code (inr a) = inr (inr (inl a))

setup-codes : (fault : SetupFault) → (4 ≤ setup_code fault) × (setup_code fault ≤ 8)
setup-codes setup.EphemeralMissing = (omega arith, omega arith)
setup-codes _ = (omega arith, omega arith)

-- the numbers of the faults of a setup
pub setup-within : (fault : SetupFault) (code : ℕ) → code ≡ setup_code fault → (4 ≤ code) × (code ≤ 8)
setup-within fault code is = subst (λ (n : ℕ). (4 ≤ n) × (n ≤ 8)) (sym is) (setup-codes fault)

pub valid-name : (bytes : List ℕ) (p : Plan) (n : ℕ) → IsPatternOf bytes p → (n ≡ 1 → ⊥) → (n ≡ 1) ↔ IsNoName bytes
valid-name bytes p n h none = (λ e. absurd (none e), λ i. absurd (i.none p h))

pub valid-pattern : (bytes : List ℕ) (p : Plan) (n : ℕ) → IsPatternOf bytes p → IsValid p → ((q : Plan) → IsPatternOf bytes q → q ≡ p) → (n ≡ 2 → ⊥)
    → (n ≡ 2) ↔ (IsNoText bytes ⊎ IsNotValid bytes)
valid-pattern bytes p n h v one none = (λ e. absurd (none e), λ i. absurd (not-both i)) where
  not-both : IsNoText bytes ⊎ IsNotValid bytes → ⊥
  not-both (inl t) = t.none p h
  not-both (inr t) = t.broken (subst (λ (z : Plan). IsValid z) (sym (one t.pattern t.named)) v)

pub keeps-start : (new : NoiseHandshake) (h : HandshakeValue Table) (p : Plan) (text : List ℕ) (later : List (List ℕ)) (v : Party)
    → text_from_c new ≡ text → IsPatternOf text p → h.pattern ≡ p → handshake_from_c h.pattern new ≡ h → IsParty pairs_in (with_later h later) v → KeepsParty new p v
keeps-start new h p text later v t named q same s = record {
  pattern = subst (λ (z : List ℕ). IsPatternOf z p) (sym t) named;
  later = later;
  matches = subst (λ (z : HandshakeValue Table). IsParty pairs_in (with_later z later) v) (sym (ap (λ (z : Plan). handshake_from_c z new) (sym q) ∙ same)) s;
}

ok-err : (h : HandshakeValue Table) (f : SetupFault) → ◌≡◌ {A = Result (HandshakeValue Table) SetupFault} (Ok h) (Err f) → ⊥
ok-err h f e = cc

err-same : (f g : SetupFault) → ◌≡◌ {A = Result (HandshakeValue Table) SetupFault} (Err f) (Err g) → f ≡ g
err-same f g e = cc

code-ok : (o : Option SetupFault) (r : Result (HandshakeValue Table) SetupFault) (h : HandshakeValue Table) → r ≡ Ok h → MatchOption o (IsOk r) (λ f. r ≡ Err f) → 0 ≡ code_of o
code-ok None r h e m = refl
code-ok (Some f) r h e m = absurd (ok-err h f (sym e ∙ m))

not-both-values : false ≡ true → ⊥
not-both-values e = cc

code-err : (o : Option SetupFault) (r : Result (HandshakeValue Table) SetupFault) (f : SetupFault) → r ≡ Err f → MatchOption o (IsOk r) (λ g. r ≡ Err g) → setup_code f ≡ code_of o
code-err None r f e m = absurd (not-both-values (subst (λ (z : Result (HandshakeValue Table) SetupFault). IsOk z) e m))
code-err (Some g) r f e m = ap setup_code (err-same f g (sym e ∙ m))

within : (n k : ℕ) → n ≤ k → nat_lt k n ≡ false
within n k a = grind (arith, nat_tests)

code-is : (p : Plan) (prologue : List ℕ) (setup : NoiseSetup) → length prologue ≤ 65535 → setup.psk_count ≤ 9 → code_of (fault_in p setup) ≡ start_code p prologue setup
code-is p prologue setup a b = rw (within (length prologue) 65535 a, within setup.psk_count 9 b) refl

pub start-ok : (p : Plan) (prologue : List ℕ) (setup : NoiseSetup) (r : Result (HandshakeValue Table) SetupFault) (h : HandshakeValue Table) → r ≡ Ok h
    → length prologue ≤ 65535 → setup.psk_count ≤ 9 → MatchOption (fault_in p setup) (IsOk r) (λ f. r ≡ Err f) → 0 ≡ start_code p prologue setup
start-ok p prologue setup r h e a b m = code-ok (fault_in p setup) r h e m ∙ code-is p prologue setup a b

pub start-err : (p : Plan) (prologue : List ℕ) (setup : NoiseSetup) (r : Result (HandshakeValue Table) SetupFault) (f : SetupFault) → r ≡ Err f
    → length prologue ≤ 65535 → setup.psk_count ≤ 9 → MatchOption (fault_in p setup) (IsOk r) (λ g. r ≡ Err g) → setup_code f ≡ start_code p prologue setup
start-err p prologue setup r f e a b m = code-err (fault_in p setup) r f e m ∙ code-is p prologue setup a b

pub remote-of : (e f s t : Option (List ℕ)) → e ≡ f → s ≡ t → ◌≡◌ {A = Remote} (record { e = e; s = s }) (record { e = f; s = t })
remote-of e f s t a b = ap (λ (z : Option (List ℕ)). record { e = z; s = s }) a ∙ ap (λ (z : Option (List ℕ)). record { e = f; s = z }) b

pub fault-moved : (p : Plan) (role role2 : Role) (t t2 : Table) (m m2 : Remote) (n : ℕ) (r : Result (HandshakeValue Table) SetupFault) → role ≡ role2 → t ≡ t2 → m ≡ m2
    → MatchOption (setup_fault p role (public_in t) m n) (IsOk r) (λ f. r ≡ Err f) → MatchOption (setup_fault p role2 (public_in t2) m2 n) (IsOk r) (λ f. r ≡ Err f)
fault-moved p role role2 t t2 m m2 n r a b c h =
    subst (λ (z : Remote). MatchOption (setup_fault p role2 (public_in t2) z n) (IsOk r) (λ f. r ≡ Err f)) c
    (subst (λ (z : Table). MatchOption (setup_fault p role2 (public_in z) m n) (IsOk r) (λ f. r ≡ Err f)) b
    (subst (λ (z : Role). MatchOption (setup_fault p z (public_in t) m n) (IsOk r) (λ f. r ≡ Err f)) a h))

pub matches-moved : (p : Plan) (prologue : List ℕ) (t : Table) (psks : List (List ℕ)) (role role2 : Role) (m m2 : Remote) (r : Result (HandshakeValue Table) SetupFault) → role ≡ role2 → m ≡ m2
    → IfOk r (λ h. (later : List (List ℕ)) → IsParty pairs_in (with_later h later) (party_at_start p role prologue (public_in t) (agreement_in t) m (psks ++ later)))
    → IfOk r (λ h. (later : List (List ℕ)) → IsParty pairs_in (with_later h later) (party_at_start p role2 prologue (public_in t) (agreement_in t) m2 (psks ++ later)))
matches-moved p prologue t psks role role2 m m2 r a b h =
    subst (λ (z : Remote). IfOk r (λ y. (later : List (List ℕ)) → IsParty pairs_in (with_later y later)
    (party_at_start p role2 prologue (public_in t) (agreement_in t) z (psks ++ later)))) b
    (subst (λ (z : Role). IfOk r (λ y. (later : List (List ℕ)) → IsParty pairs_in (with_later y later)
    (party_at_start p z prologue (public_in t) (agreement_in t) m (psks ++ later)))) a h)
