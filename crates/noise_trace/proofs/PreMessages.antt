-- The steps of the start.
use Rattle.std.proofs.Common.{rules, arith, ◌≡◌, ◌≤◌, length, ℕ, List, [], ◌∷◌, ◌++◌, refl, sym, ◌∙◌, append_assoc}
use Rattle.std.specs.Prelude.{Some}
use Rattle.noise_trace.proofs.Common.{Bool, true, false, not, ◌↔◌, IsTrue, IsFalse, Option, is_some, unwrap_or, Token, E, S, Ee, Es, Se, Ss, Psk, Role, Initiator, Responder, other, same_token, Plan, pre_of, has_psk, places_of, SymmetricState, Remote, has_before, has_token, keys_of, public_keys, start_of, token_of, with_premessage, with_ephemeral, values_of}
use Rattle.noise_names.specs.Limits.{is_pre_message}
use Rattle.noise_names.specs.Names.{name_bytes}
use Rattle.noise_names.specs.Validity.{is_among}
use Rattle.noise_keys.specs.declared.keys.Own.{Own}
use Rattle.noise_keys.specs.declared.keys.Own.TheVariants.{Ephemeral, Static}
use Rattle.noise_trace.specs.declared.start_step.StartStep.{StartStep}
use Rattle.noise_trace.specs.declared.values.StateValues.{StateValues}
use Rattle.noise_trace.specs.inner.PreMessages.{Mixes}
use Rattle.noise_trace.specs.Start.{start_step, key_steps, pre_steps, after_name, after_prologue, start_steps, values_after}
use Rattle.noise_trace.specs.declared.start_step.StartPart.TheVariants as part
use Rattle.noise_state.specs.Symmetric.{initialize, mix_hash}

pub flips : (b x : Bool) → (IsTrue b ↔ IsFalse x) → not b ≡ x
flips true x e = sym (e.0 refl)
flips false true e = refl
flips false false e = absurd (let h : false ≡ true = e.1 refl in cc)

-- a pre-message has at most two tokens
pub few-keys : (ts : List Token) → IsTrue (is_pre_message ts) → length ts ≤ 2
few-keys [] h = omega arith
few-keys (E ∷ []) h = omega arith
few-keys (S ∷ []) h = omega arith
few-keys (E ∷ S ∷ []) h = omega arith
few-keys _ h = cc

-- a static key
pub mixes-s : (has_psks : Bool) (party : Role) (keys : Remote) (t : Token) (r : SymmetricState) (key : List ℕ) (state : SymmetricState) (old new : List StartStep)
    → t ≡ S → keys.s ≡ Some key → state ≡ mix_hash r key
    → new ≡ old ++ start_step (part.Key party t) (mix_hash r key) ∷ [] → Mixes has_psks party keys (t ∷ []) r state old new
mixes-s has_psks party keys t r key state old new e k s n = search rules

-- the first token, and then the others
pub mixes-on : (has_psks : Bool) (party : Role) (keys : Remote) (tokens : List Token) (t : Token) (ts : List Token) (r : SymmetricState) (state : SymmetricState)
    (old mid new : List StartStep) → tokens ≡ t ∷ ts → mid ≡ old ++ key_steps has_psks party keys (t ∷ []) r
    → Mixes has_psks party keys ts (with_premessage has_psks keys (t ∷ []) r) state mid new → Mixes has_psks party keys tokens r state old new
mixes-on has_psks party keys tokens t ts r state old mid new split first m = search (rules, append_assoc)

-- the tokens of a list are among it
pub has-here : (u t : Token) (tokens ts : List Token) → same_token u u ≡ true → tokens ≡ t ∷ ts → t ≡ u → has_token u tokens ≡ true
has-here u t tokens ts same split e = search

pub has-later : (u t : Token) (tokens ts : List Token) → tokens ≡ t ∷ ts → has_token u ts ≡ true → has_token u tokens ≡ true
has-later u t tokens ts split h = search rules

-- A party's keys of its pre-message are there, in a setup without a fault.
module _ (p : Plan) (own : Own → Option (List ℕ)) (known : Remote)
    (stand : (party : Role) (t : Token) → has_before p party t ≡ true → is_among party t (places_of p) ≡ true) where
  pub has-keys : (party role : Role)
      → ((x : Own) → is_among role (token_of x) (places_of p) ≡ true → is_some (own x) ≡ true)
      → (is_some known.e ≡ has_before p (other role) E) × (is_some known.s ≡ has_before p (other role) S)
      → (has_before p party E ≡ true → is_some (keys_of party role (public_keys own) known).e ≡ true)
      × (has_before p party S ≡ true → is_some (keys_of party role (public_keys own) known).s ≡ true)
  has-keys Initiator Initiator whole remote = (λ h. whole Ephemeral (stand Initiator E h), λ h. whole Static (stand Initiator S h))
  has-keys Responder Responder whole remote = (λ h. whole Ephemeral (stand Responder E h), λ h. whole Static (stand Responder S h))
  has-keys Initiator Responder whole remote = (λ h. remote.0 ∙ h, λ h. remote.1 ∙ h)
  has-keys Responder Initiator whole remote = (λ h. remote.0 ∙ h, λ h. remote.1 ∙ h)

-- the steps as the code makes them
abbrev pub made : Bool → List Token → List Token → List ℕ → List ℕ → Remote → Remote → List StartStep
made has_psks first second name prologue initiator responder =
    let r0 : SymmetricState = initialize name in
    let r1 : SymmetricState = mix_hash r0 prologue in
    start_step part.Name r0 ∷ start_step part.Prologue r1
    ∷ (key_steps has_psks Initiator initiator first r1
    ++ key_steps has_psks Responder responder second (with_premessage has_psks initiator first r1))

-- they are those of the pattern
pub made-is : (p : Plan) (has_psks : Bool) (first second : List Token) (name prologue : List ℕ) (initiator responder i r : Remote)
    → has_psks ≡ has_psk p → first ≡ pre_of Initiator p → second ≡ pre_of Responder p → name ≡ name_bytes (record { base = p.base; places = p.places })
    → initiator ≡ i → responder ≡ r
    → made has_psks first second name prologue initiator responder
    ≡ start_step part.Name (after_name p) ∷ start_step part.Prologue (after_prologue p prologue) ∷ pre_steps p i r (after_prologue p prologue)
made-is p has_psks first second name prologue initiator responder i r eb ef es en ei er = search

-- one after another
pub in-turn : (has_psks : Bool) (first second : List Token) (name prologue : List ℕ) (initiator responder : Remote) (none one two three four : List StartStep)
    → none ≡ [] → one ≡ none ++ start_step part.Name (initialize name) ∷ []
    → two ≡ one ++ start_step part.Prologue (mix_hash (initialize name) prologue) ∷ []
    → three ≡ two ++ key_steps has_psks Initiator initiator first (mix_hash (initialize name) prologue)
    → four ≡ three ++ key_steps has_psks Responder responder second
    (with_premessage has_psks initiator first (mix_hash (initialize name) prologue))
    → four ≡ made has_psks first second name prologue initiator responder
in-turn has_psks first second name prologue initiator responder none one two three four e0 e1 e2 e3 e4 = search rules

after-append : (before : StateValues) (a b : List StartStep) → values_after before (a ++ b) ≡ values_after (values_after before a) b
after-append before [] b = refl
after-append before (s ∷ a) b = after-append s.state a b

after-keys : (has_psks : Bool) (party : Role) (keys : Remote) (ts : List Token) (r : SymmetricState)
    → values_after (values_of r) (key_steps has_psks party keys ts r) ≡ values_of (with_premessage has_psks keys ts r)
after-keys has_psks party keys [] r = refl
after-keys has_psks party keys (E ∷ ts) r = after-keys has_psks party keys ts (with_ephemeral has_psks r (unwrap_or keys.e []))
after-keys has_psks party keys (S ∷ ts) r = after-keys has_psks party keys ts (mix_hash r (unwrap_or keys.s []))
after-keys has_psks party keys (Ee ∷ ts) r = after-keys has_psks party keys ts r
after-keys has_psks party keys (Es ∷ ts) r = after-keys has_psks party keys ts r
after-keys has_psks party keys (Se ∷ ts) r = after-keys has_psks party keys ts r
after-keys has_psks party keys (Ss ∷ ts) r = after-keys has_psks party keys ts r
after-keys has_psks party keys (Psk ∷ ts) r = after-keys has_psks party keys ts r

-- after the last step of the start the values are those of the start
pub after-start : (p : Plan) (role : Role) (prologue : List ℕ) (own remote : Remote) (before : StateValues)
    → values_after before (start_steps p role prologue own remote) ≡ values_of (start_of p role prologue own remote)
after-start p role prologue own remote before = search (after-append, after-keys)
