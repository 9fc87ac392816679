-- What is wrong with a line in characters that aren't seen.
use Rattle.std.specs.Prelude.{ℕ, ◌-◌, ◌==◌, List, [], ◌∷◌, Option, None, Some, length, slice_get, if◌then◌else◌}
use Rattle.std.specs.Bool.{nat_eq}
use Rattle.std.specs.List.{list_any, starts_with}
use Rattle.noise_explain.specs.declared.advice.Advice.{Advice}
use Rattle.noise_explain.specs.declared.advice.Advice.TheVariants.{ByteOrderMark, CarriageReturn, Empty, SpaceAtEnd, Tab}

-- by the last byte: there is none, or it is a carriage return (13) or a space (32)
abbrev pub end_slip : Option ℕ → Option Advice
end_slip None = Some Empty
end_slip (Some b) = if b == 13 then Some CarriageReturn else (if b == 32 then Some SpaceAtEnd else None)

-- by the first of these that it has: a byte-order mark at its front (239, 187, 191), a tab (9), such an end
abbrev pub slip_in : List ℕ → Option Advice
slip_in line =
    if starts_with nat_eq line (239 ∷ 187 ∷ 191 ∷ []) then Some ByteOrderMark
    else (if list_any (λ b. b == 9) line then Some Tab else end_slip (slice_get line (length line - 1)))
