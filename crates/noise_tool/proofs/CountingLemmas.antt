-- What is counted of one entry more.
use Rattle.std.proofs.Common.{◌≡◌, ◌∙◌, ◌+◌, ◌-◌, ◌<◌, ◌≤◌, ◌^◌, ◌++◌, ◌∷◌, ℕ, List, [], ap, append_assoc, arith, get_or, length, length-append, length-take, map, subst, sym, take}
use Rattle.std.specs.Prelude.{Option, option_map}
use Rattle.std.specs.List.{filter_map}
use Rattle.std.proofs.lemmas.List.{length-map, map-append, take_all, take_more}
use Rattle.std.proofs.lemmas.List.Elements.{filter_map-append}
use Rattle.noise_names.specs.declared.token.Role.{Role}
use Rattle.noise_duel.specs.Notes.{Note}
use Rattle.noise_tool.specs.Counting.{acts_in, counted_act}
use Rattle.noise_explain.specs.RunCounts.{CountsRun}
use Rattle.noise_explain.specs.declared.run_counts.Act.{Act}
use Rattle.noise_explain.specs.declared.run_counts.RunCounts.{RunCounts}

few-made : {X Y : Type 0} (h : X → Option Y) (xs : List X) → length (filter_map h xs) ≤ length xs
few-made h [] = omega arith
few-made h (x ∷ xs) = let more = few-made h xs in grind arith

-- the acts of one entry more
acts-next : {E X Y : Type 0} (h : X → Option Y) (f : E → X) (entries : List E) (i : ℕ) (e : E) → i < length entries → e ≡ get_or entries i e
    → filter_map h (map f (take i entries)) ++ filter_map h (f e ∷ []) ≡ filter_map h (map f (take (i + 1) entries))
acts-next {E = E} h f entries i e less is =
    let next : take (i + 1) entries ≡ take i entries ++ e ∷ [] = take_more entries i e less ∙ ap (λ (x : E). take i entries ++ x ∷ []) (sym is) in
    sym (ap (λ (t : List E). filter_map h (map f t)) next ∙ ap (filter_map h) (map-append f (take i entries) (e ∷ []))
    ∙ filter_map-append h (map f (take i entries)) (f e ∷ []))

pub counted-next : {E X : Type 0} (h : X → Option (Role × Act)) (f : E → X) (entries items : List E) (i : ℕ) (e : E) (messages : ℕ)
    (acts : List (Role × Act)) (old new : RunCounts) → items ≡ entries → i < length items → e ≡ get_or items i e
    → length acts + length entries < 2 ^ 64 → CountsRun messages (acts ++ filter_map h (map f (take i entries))) old
    → ((before : List (Role × Act)) → length before < 2 ^ 64 - 1 → CountsRun messages before old
    → CountsRun messages (before ++ filter_map h (f e ∷ [])) new)
    → CountsRun messages (acts ++ filter_map h (map f (take (i + 1) entries))) new
counted-next h f entries items i e messages acts old new same less is few counted step =
    let within : i < length entries = rw (← same) less in
    let here : e ≡ get_or entries i e = rw (← same) is in
    let made = filter_map h (map f (take i entries)) in
    let bound : length (acts ++ made) < 2 ^ 64 - 1 =
    omega (arith, few, within, length-append acts made, few-made h (map f (take i entries)), length-map (take i entries) f, length-take i entries) in
    subst (λ (t : List (Role × Act)). CountsRun messages t new)
    (append_assoc acts made (filter_map h (f e ∷ [])) ∙ ap (λ (t : List (Role × Act)). acts ++ t) (acts-next h f entries i e within here))
    (step (acts ++ made) bound counted)

-- those of all entries
pub counted-all : {E X : Type 0} (h : X → Option (Role × Act)) (f : E → X) (entries items : List E) (i messages : ℕ)
    (acts : List (Role × Act)) (counts : RunCounts) → items ≡ entries → length items ≤ i
    → CountsRun messages (acts ++ filter_map h (map f (take i entries))) counts → CountsRun messages (acts ++ filter_map h (map f entries)) counts
counted-all {E = E} h f entries items i messages acts counts same all counted =
    let past : length entries ≤ i = rw (← same) all in
    subst (λ (es : List E). CountsRun messages (acts ++ filter_map h (map f es)) counts) (take_all i entries past) counted

pub few-acts : (notes : List (Role × Note)) → length (acts_in notes) ≤ length notes
few-acts notes = few-made (λ n. option_map (λ a. (n.0, a)) (counted_act n.1)) notes
