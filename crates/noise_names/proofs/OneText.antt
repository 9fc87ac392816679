-- No text spells two patterns.
use Rattle.std.proofs.Common.{rules, ◌≡◌, ℕ, true, ◌++◌, refl, ap, ◌∙◌, append_assoc, arith}
use Rattle.noise_names.proofs.Common.{codes, nat_tests, same_from_push, list_all-append, section_bytes-all, IsPattern, is_section_byte, Section, IsSection, section_bytes, Plan, line, text_of, body_of, heading_of}
use Rattle.noise_names.proofs.Lines.{first_same, is_other, no_feed}
use Rattle.noise_names.proofs.PatternRows.{lines_same}
use Rattle.noise_names.proofs.Reading.{plan-same}
use Rattle.noise_names.proofs.Sections.{all_weaker, one_section}

other_byte : (c : ℕ) → is_section_byte c ≡ true → is_other c ≡ true
other_byte c h = grind (arith, nat_tests)

-- no line feed is in the heading
pub heading_all : (s : Section) → IsSection s → no_feed (heading_of s) ≡ true
heading_all s h =
    list_all-append is_other (section_bytes s.base s.places) (codes ":")
    ∙ rw (all_weaker is_section_byte is_other (section_bytes s.base s.places) other_byte (section_bytes-all s h)) refl

pub one_text : (p q : Plan) → IsPattern p → IsPattern q → text_of p ≡ text_of q → p ≡ q
one_text p q h k e =
    let s : Section = record { base = p.base; places = p.places } in
    let t : Section = record { base = q.base; places = q.places } in
    let hs : IsSection s = record { base = h.base; places = h.places } in
    let kt : IsSection t = record { base = k.base; places = k.places } in
    let cut : line (heading_of s) ++ body_of p ≡ line (heading_of t) ++ body_of q = search (rules, append_assoc) in
    let parts = first_same (heading_of s) (heading_of t) (body_of p) (body_of q) (heading_all s hs) (heading_all t kt) cut in
    let sections : s ≡ t = one_section s t hs kt (same_from_push (section_bytes p.base p.places) (section_bytes q.base q.places) 58 58 parts.0).0 in
    let rest = lines_same p.initiator p.responder q.initiator q.responder p.messages q.messages h.sizes k.sizes parts.1 in
    plan-same p.base q.base p.places q.places p.initiator q.initiator p.responder q.responder p.messages q.messages (ap (λ (x : Section). x.base) sections)
    (ap (λ (x : Section). x.places) sections) rest.0 rest.1 rest.2
