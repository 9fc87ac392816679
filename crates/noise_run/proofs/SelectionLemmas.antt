-- The lines that are kept.
use Rattle.std.proofs.Common.{◌≡◌, ◌≢◌, ◌∙◌, ◌+◌, sym, ap, ap₂, ℕ, Bool, true, List, [], ◌∷◌, ◌++◌, Option, Some, None, codes, append_assoc}
use Rattle.noise_run.proofs.Common.{selects_transport, if_selected, RenewsBeforeLastNonce, rekeyed_lines, transport_lines, act_word, transport_call_word, transport_line, Selection}
use Rattle.noise_session.specs.Transport.{last_nonce}
use Rattle.noise_trace.specs.KeyUses.KeyUseValue.{Transport}
use Rattle.noise_run.specs.declared.trace_lines.About.{About}

abbrev Lines : Type 0
Lines = List (List ℕ)

-- a key that is rekeyed has a nonce to come
pub counted-some : (nonce : ℕ) (key next : List ℕ) (renewed : Option (List ℕ)) → renewed ≡ Some next → RenewsBeforeLastNonce (Transport nonce key renewed)
    → nonce ≢ last_nonce
counted-some nonce key next None is counted = absurd (cc is)
counted-some nonce key next (Some other) is counted = counted

-- a transport message, and then the new key
pub transport-rekeyed : (selection : Selection) (about : About) (nonce later : ℕ) (key next name call : List ℕ) (renewed : Option (List ℕ)) (keeps : Bool)
    (old one new : Lines) → keeps ≡ true → keeps ≡ selects_transport selection about.role → renewed ≡ Some next → name ≡ act_word about.act
    → call ≡ transport_call_word about.act → later ≡ nonce + 1
    → one ≡ old ++ transport_line about.role name call key nonce ∷ []
    → new ≡ one ++ transport_line about.role (codes "renewed") (codes "Rekey") next later ∷ []
    → new ≡ old ++ transport_lines selection about nonce key renewed
transport-rekeyed selection about nonce later key next name call renewed keeps old one new selection_is same is named called counted first second =
    let all : Lines = transport_line about.role (act_word about.act) (transport_call_word about.act) key nonce ∷ rekeyed_lines about.role nonce renewed in
    let yes : selects_transport selection about.role ≡ true = sym same ∙ selection_is in
    second
    ∙ ap (λ (ls : Lines). ls ++ transport_line about.role (codes "renewed") (codes "Rekey") next later ∷ []) first
    ∙ append_assoc old (transport_line about.role name call key nonce ∷ [])
    (transport_line about.role (codes "renewed") (codes "Rekey") next later ∷ [])
    ∙ ap₂ (λ (n c : List ℕ). old ++ (transport_line about.role n c key nonce
    ∷ transport_line about.role (codes "renewed") (codes "Rekey") next later ∷ [])) named called
    ∙ ap (λ (k : ℕ). old ++ (transport_line about.role (act_word about.act) (transport_call_word about.act) key nonce
    ∷ transport_line about.role (codes "renewed") (codes "Rekey") next k ∷ [])) counted
    ∙ ap (λ (r : Option (List ℕ)). old ++ (transport_line about.role (act_word about.act) (transport_call_word about.act) key nonce
    ∷ rekeyed_lines about.role nonce r)) (sym is)
    ∙ ap (λ (b : Bool). old ++ if_selected b all) (sym yes)
