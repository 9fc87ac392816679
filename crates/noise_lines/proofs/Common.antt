-- The names that most of these proofs cite, passed on from one place. Declares nothing.
pub use Rattle.std.proofs.KnownBytes.{Appends-kept, Appends-trans, Consumes-kept, Consumes-nil, Consumes-trans, Keeps-refl, Keeps-trans}
pub use Rattle.std.proofs.lemmas.List.{drop_more, flat_map_more, length-append, length-take, take-append-drop, take_all, take_rest}
pub use Rattle.std.specs.Io.KnownBytes.{Appends, Consumes, IsAtEnd, Keeps}
pub use Rattle.std.specs.List.{All, list_all, range_with_len}
pub use Rattle.std.specs.Prelude.{IfSome, flat_map, slice_index, unwrap_or}
pub use Rattle.noise_names.specs.Lists.{bytes_of}
pub use Rattle.noise_names.specs.Text.{line}
pub use Rattle.noise_vectors.specs.HexWord.{hex_of}
pub use Rattle.noise_lines.specs.Lines.{lines_text}
pub use Rattle.noise_lines.specs.Prefixes.{AppendsPrefix}
pub use Rattle.noise_lines.specs.TracedLines.{traces_of, with_traces}
