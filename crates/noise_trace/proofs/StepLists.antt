-- The steps that the tokens of a message are told as.
use Rattle.std.proofs.Common.{◌≡◌, ℕ, ◌+◌, ◌<◌, ◌≤◌, List, [], ◌∷◌, ◌++◌, length, sym, ap, ◌∙◌, arith, append_assoc, append-nil, length-append}
use Rattle.std.proofs.lemmas.Bool.Decides.{nat_tests}
use Rattle.noise_trace.proofs.Common.{Bool, true, nat_lt, if◌then◌else◌, Token, SymmetricState, token_bytes, after_token, after_payload, before_payload, message_bytes, Step, StepList, step, token_steps, message_steps, payload_step, values_of, with_step, with_token}
use Rattle.noise_handshake.specs.Steps.{after_steps}
use Rattle.noise_trace.specs.declared.step.Part.TheVariants as part
use Rattle.noise_trace.specs.declared.values.StateValues.{StateValues}

abbrev list_of : List Step → StepList
list_of steps = record { steps = record { items = steps } }

room-for : (list : StepList) (s : Step) → length list.steps.items < 11 → with_step list s ≡ list_of (list.steps.items ++ s ∷ [])
room-for list s h =
    let e : nat_lt (length list.steps.items) 11 ≡ true = grind (arith, nat_tests) in
    ap (λ (b : Bool). if b then list_of (list.steps.items ++ s ∷ []) else list) e

told-items : (has_psks : Bool) (r : SymmetricState) (from : ℕ) (ts : List Token) (xs : List (List ℕ)) (old : List Step) → length old + length ts ≤ 11
    → after_steps with_token has_psks r from ts xs (list_of old) ≡ list_of (old ++ token_steps has_psks r from ts xs)
told-items has_psks r from [] xs old h = ap list_of (sym (append-nil old))
told-items has_psks r from (t ∷ ts) [] old h = ap list_of (sym (append-nil old))
told-items has_psks r from (t ∷ ts) (x ∷ xs) old h =
    let s : Step = step (part.Token t) from (length (token_bytes r t x)) (after_token has_psks r t x) in
    let next : SymmetricState = after_token has_psks r t x in
    let to : ℕ = from + length (token_bytes r t x) in
    let here : with_step (list_of old) s ≡ list_of (old ++ s ∷ []) = room-for (list_of old) s (omega (arith, h)) in
    ap (after_steps with_token has_psks next to ts xs) here
    ∙ told-items has_psks next to ts xs (old ++ s ∷ []) (omega (arith, h, length-append old (s ∷ [])))
    ∙ ap list_of (append_assoc old (s ∷ []) (token_steps has_psks next to ts xs))

-- the steps of tokens that were told to an empty list
pub told-tokens : (has_psks : Bool) (r : SymmetricState) (ts : List Token) (xs : List (List ℕ)) (list told : StepList) → list.steps.items ≡ [] → length ts ≤ 10
    → told ≡ after_steps with_token has_psks r 0 ts xs list → told.steps.items ≡ token_steps has_psks r 0 ts xs
told-tokens has_psks r ts xs list told empty h e =
    ap (λ (l : StepList). l.steps.items)
    (e ∙ ap (λ (old : List Step). after_steps with_token has_psks r 0 ts xs (list_of old)) empty ∙ told-items has_psks r 0 ts xs [] (omega (arith, h)))

steps-few : (has_psks : Bool) (r : SymmetricState) (from : ℕ) (ts : List Token) (xs : List (List ℕ)) → length (token_steps has_psks r from ts xs) ≤ length ts
steps-few has_psks r from [] xs = omega arith
steps-few has_psks r from (t ∷ ts) [] = omega arith
steps-few has_psks r from (t ∷ ts) (x ∷ xs) =
    let i = steps-few has_psks (after_token has_psks r t x) (from + length (token_bytes r t x)) ts xs in omega (arith, i)

-- and then the step of the payload
pub told-message : (has_psks : Bool) (r : SymmetricState) (ts : List Token) (xs : List (List ℕ)) (payload m : List ℕ) (list told all : StepList) (from : ℕ)
    (values : StateValues) → list.steps.items ≡ [] → length ts ≤ 10 → told ≡ after_steps with_token has_psks r 0 ts xs list
    → from ≡ length (before_payload has_psks r ts xs) → m ≡ message_bytes has_psks r ts xs payload
    → values ≡ values_of (after_payload has_psks r ts xs payload)
    → all ≡ with_step told (record { part = part.Payload; from = from; to = length m; state = values })
    → all.steps.items ≡ message_steps has_psks r ts xs payload
told-message has_psks r ts xs payload m list told all from values empty h e f s w a =
    let last : Step = record { part = part.Payload; from = from; to = length m; state = values } in
    let tokens = told-tokens has_psks r ts xs list told empty h e in
    let room : length told.steps.items < 11 = omega (arith, h, ap length tokens, steps-few has_psks r 0 ts xs) in
    let last-is : last ≡ payload_step has_psks r ts xs payload =
    ap (λ (n : ℕ). record last { from = n }) f
    ∙ ap (λ (b : List ℕ). record last { from = length (before_payload has_psks r ts xs); to = length b }) s
    ∙ ap (λ (z : StateValues). record (payload_step has_psks r ts xs payload) { state = z }) w in
    ap (λ (l : StepList). l.steps.items) (a ∙ room-for told last room)
    ∙ ap (λ (old : List Step). old ++ last ∷ []) tokens ∙ ap (λ (z : Step). token_steps has_psks r 0 ts xs ++ z ∷ []) last-is
