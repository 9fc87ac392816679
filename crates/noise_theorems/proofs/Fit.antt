-- Lines that fit are in turn, and what comes of them leaves no byte over.
use Rattle.std.proofs.Common.{rules, ◌≡◌, refl, ℕ, zero, suc, ◌+◌, List, ◌∷◌, length, arith, add-one, []}
use Rattle.noise_theorems.proofs.Common.{Bool, true, false, if◌then◌else◌, Role, Initiator, Responder, other, same_role, turn_from, Plan, InTurn, notes_of_messages, message_fits, messages_fit_from, bytes_not_received, and_parts}

pub in-turn : (p : Plan) (n : ℕ) (lines : List (Role × List ℕ)) → messages_fit_from p n lines ≡ true → InTurn p n lines
in-turn p n [] h = tt
in-turn p n (l ∷ lines) h = search (rules, (in-turn p (n + 1) lines (and_parts (message_fits p n l.0 (length l.1)) (messages_fit_from p (n + 1) lines) h).1))

-- nothing is left over of lines that come through
zero-more : (b : Bool) (n : ℕ) → n ≡ 0 → (if b then 0 else 0) + n ≡ 0
zero-more true n h = omega arith
zero-more false n h = omega arith

none-two : (role r : Role) (i j : ℕ) (payload : List ℕ) (lines : List (Role × List ℕ)) → bytes_not_received role (notes_of_messages (i + 1) j lines) ≡ 0
    → bytes_not_received role (notes_of_messages i (j + 1) lines) ≡ 0 → bytes_not_received role (notes_of_messages i j ((r, payload) ∷ lines)) ≡ 0
none-two role Initiator i j payload lines f g = zero-more (same_role Initiator role) _ (zero-more (same_role Responder role) _ f)
none-two role Responder i j payload lines f g = zero-more (same_role Responder role) _ (zero-more (same_role Initiator role) _ g)

pub none-left-ended_party : (role : Role) (i j : ℕ) (lines : List (Role × List ℕ)) → bytes_not_received role (notes_of_messages i j lines) ≡ 0
none-left-ended_party role i j [] = refl
none-left-ended_party role i j (l ∷ lines) = none-two role l.0 i j l.1 lines (none-left-ended_party role (i + 1) j lines) (none-left-ended_party role i (j + 1) lines)

turn-suc : (party : Role) (n : ℕ) → turn_from party (suc n) ≡ other (turn_from party n)
turn-suc party zero = refl
turn-suc party (suc n) = turn-suc (other party) n

pub turn-next : (party : Role) (n : ℕ) → turn_from party (n + 1) ≡ other (turn_from party n)
turn-next party n = rw add-one (turn-suc party n)

-- where a line fits, all lines from it on fit if those after it do
pub one-line : (p : Plan) (n : ℕ) (role : Role) (payload : List ℕ) (len : ℕ) (lines : List (Role × List ℕ)) (fits : Bool) → len ≡ length payload
    → fits ≡ message_fits p n role len → fits ≡ true → messages_fit_from p n ((role, payload) ∷ lines) ≡ messages_fit_from p (n + 1) lines
one-line p n role payload len lines fits a b d = search
