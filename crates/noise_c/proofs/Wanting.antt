-- What it comes to where a DH result or a secret is wanted.
use Rattle.std.proofs.Common.{◌≡◌, ℕ, List, sym, subst}
use Rattle.noise_c.proofs.Common.{Bool, Plan, Own, Want, Party, WantsToRead, WantsToWrite, IsWantedToRead, IsWantedToWrite, WantsPskToRead, WantsPskToWrite, NoiseHandshake, NoiseResult, own_in, remote_reported, KeepsParty, ReportsDhResult, ReportsRemote, ReportsWant}
use Rattle.noise_handshake.specs.declared.faults.Want.TheVariants.{DhResult, Psk}
use Rattle.noise_c.specs.Outcomes.{ReadOutcome, WriteOutcome}
use Rattle.noise_c.specs.Outcomes.ReadOutcome.{wants_dh_result as read_wants_dh_result, wants_psk as read_wants_psk}
use Rattle.noise_c.specs.Outcomes.WriteOutcome.{wants_dh_result as write_wants_dh_result, wants_psk as write_wants_psk}
use Rattle.noise_c.proofs.Wants.{reads-psk, writes-psk}

reads-dh-result : (v : Party) (m : List ℕ) (own : Own) (key : List ℕ) (results : NoiseResult) → own_in results.of_static ≡ own → results.remote ≡ key
    → WantsToRead v m own key → WantsToRead v m (own_in results.of_static) results.remote
reads-dh-result v m own key results o k r =
    subst (λ (z : List ℕ). WantsToRead v m (own_in results.of_static) z) (sym k) (subst (λ (x : Own). WantsToRead v m x key) (sym o) r)

writes-dh-result : (v : Party) (own : Own) (key : List ℕ) (results : NoiseResult) → own_in results.of_static ≡ own → results.remote ≡ key
    → WantsToWrite v own key → WantsToWrite v (own_in results.of_static) results.remote
writes-dh-result v own key results o k r =
    subst (λ (z : List ℕ). WantsToWrite v (own_in results.of_static) z) (sym k) (subst (λ (x : Own). WantsToWrite v x key) (sym o) r)

module _ (old new : NoiseHandshake) (payload out after : List ℕ) (results : NoiseResult) (n : ℕ) where
  pub writes-outcome : (want : Want) (next : NoiseResult) (code : ℕ) → ReportsWant want next code
      → (code ≡ 20 → ReportsDhResult results next) → (code ≡ 40 → ReportsRemote results next) → n ≡ old.psk_count → new ≡ old → after ≡ out
      → ((p : Plan) (v : Party) → KeepsParty old p v → IsWantedToWrite v n want) → WriteOutcome old payload out results new after next code
  writes-outcome (DhResult own key) next code t answer static count same bytes leaves =
      subst (λ (c : ℕ). WriteOutcome old payload out results new after next c) (sym t.0)
      (write_wants_dh_result (answer t.0) same bytes (λ p v k. writes-dh-result v own key next t.1 t.2 (leaves p v k)))
  writes-outcome (Psk remote) next code t answer static count same bytes leaves =
      subst (λ (c : ℕ). WriteOutcome old payload out results new after next c) (sym t.0)
      (write_wants_psk (static t.0) same bytes (λ p v k.
      let s = writes-psk v n (Psk remote) next code t t.0 (leaves p v k) in
      (subst (λ (i : ℕ). WantsPskToWrite v i) count s.0, s.1)))

module _ (ends : Bool) (old new : NoiseHandshake) (message after : List ℕ) (results : NoiseResult) (n : ℕ) where
  pub reads-outcome : (want : Want) (next : NoiseResult) (code : ℕ) → ReportsWant want next code
      → (code ≡ 20 → ReportsDhResult results next) → (code ≡ 40 → ReportsRemote results next) → n ≡ old.psk_count → after ≡ message
      → ((p : Plan) (v : Party) → KeepsParty old p v → IsWantedToRead v n message want)
      → ReadOutcome ends old message results new after next code
  reads-outcome (DhResult own key) next code t answer static count bytes leaves =
      subst (λ (c : ℕ). ReadOutcome ends old message results new after next c) (sym t.0)
      (read_wants_dh_result (answer t.0) bytes (λ p v k. reads-dh-result v message own key next t.1 t.2 (leaves p v k)))
  reads-outcome (Psk remote) next code t answer static count bytes leaves =
      subst (λ (c : ℕ). ReadOutcome ends old message results new after next c) (sym t.0)
      (read_wants_psk (static t.0) bytes (λ p v k.
      subst (λ (i : ℕ). WantsPskToRead v i message (remote_reported next)) count
      (reads-psk v n message (Psk remote) next code t t.0 (leaves p v k))))
