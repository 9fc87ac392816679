-- What is reported where a DH result or a psk is wanted.
use Rattle.std.proofs.Common.{◌≡◌, ℕ, List, sym, subst, ◌∙◌, arith}
use Rattle.noise_c.proofs.Common.{Option, Want, Party, IsWantedToRead, IsWantedToWrite, WantsPskToRead, WantsPskToWrite, NoiseResult, remote_reported, ReportsWant}
use Rattle.noise_handshake.specs.declared.faults.Want.TheVariants.{DhResult, Psk}

pub reads-psk : (v : Party) (n : ℕ) (m : List ℕ) (want : Want) (results : NoiseResult) (code : ℕ) → ReportsWant want results code → code ≡ 40
    → IsWantedToRead v n m want → WantsPskToRead v n m (remote_reported results)
reads-psk v n m (DhResult own key) results code t e r = absurd (omega (arith, t.0, e))
reads-psk v n m (Psk remote) results code t e r = subst (λ (o : Option (List ℕ)). WantsPskToRead v n m o) (sym t.1) r

pub writes-psk : (v : Party) (n : ℕ) (want : Want) (results : NoiseResult) (code : ℕ) → ReportsWant want results code → code ≡ 40
    → IsWantedToWrite v n want → WantsPskToWrite v n × (remote_reported results ≡ v.remote.s)
writes-psk v n (DhResult own key) results code t e r = absurd (omega (arith, t.0, e))
writes-psk v n (Psk remote) results code t e r = (r.0, t.1 ∙ r.1)

-- one of both numbers is returned
pub want-code : (want : Want) (results : NoiseResult) (code : ℕ) (Q : ℕ → Type 0) → ReportsWant want results code → Q 20 → Q 40 → Q code
want-code (DhResult own key) results code Q t a s = subst Q (sym t.0) a
want-code (Psk remote) results code Q t a s = subst Q (sym t.0) s
