use Rattle.std.proofs.Common.{Bool, not, cond, ap, sym, ◌∙◌, Ok, Err}
use Rattle.noise_names.proofs.Common.{err_from_is_err_and, Algorithm}
use Rattle.noise_names.proofs.ProtocolNames.{section_is, algorithm_is, name_section_err, name_section_ok}
use Rattle.noise_names.proofs.name.read_name.Goals as goal

pub returns-in_err-name : goal.returns-in_err-name
returns-in_err-name c =
    let p = err_from_is_err_and c.from_residual.result c.from_residual.ensures.1 in
    rw (p.1, p.2)
    (sym (name_section_err c.args.bytes.now c.split_at.result.0.now c.in_err-name.field-0.0 c.if-bytes-gt255.false c.in-Some.ensures.cases.0
    (section_is c.args.bytes.now c.in-Some.after.now c.split_at.result.0.now c.section_len.result c.in-Some.ensures.cases.1 c.section_len.ensures
    c.split_at.ensures.front)
    (sym c.in_err-name.ensures)))

pub returns-then-not-is_algorithm : goal.returns-then-not-is_algorithm
returns-then-not-is_algorithm c =
    let read = name_section_ok c.args.bytes.now c.split_at.result.0.now c.split_at.result.1.now c.in_ok-name.name c.if-bytes-gt255.false
    c.in-Some.ensures.cases.0
    (section_is c.args.bytes.now c.in-Some.after.now c.split_at.result.0.now c.section_len.result c.in-Some.ensures.cases.1 c.section_len.ensures
    c.split_at.ensures.front)
    (algorithm_is c.args.bytes.now c.in-Some.after.now c.split_at.result.1.now c.section_len.result c.in-Some.ensures.cases.1 c.section_len.ensures
    c.split_at.ensures.back)
    (sym c.in_ok-name.ensures) in
    sym (read ∙ ap (λ (b : Bool). cond (not b) (Err Algorithm) (Ok c.in_ok-name.name)) (sym c.if-not-is_algorithm.ensures))

pub returns : goal.returns
returns c =
    let read = name_section_ok c.args.bytes.now c.split_at.result.0.now c.split_at.result.1.now c.in_ok-name.name c.if-bytes-gt255.false
    c.in-Some.ensures.cases.0
    (section_is c.args.bytes.now c.in-Some.after.now c.split_at.result.0.now c.section_len.result c.in-Some.ensures.cases.1 c.section_len.ensures
    c.split_at.ensures.front)
    (algorithm_is c.args.bytes.now c.in-Some.after.now c.split_at.result.1.now c.section_len.result c.in-Some.ensures.cases.1 c.section_len.ensures
    c.split_at.ensures.back)
    (sym c.in_ok-name.ensures) in
    sym (read ∙ ap (λ (b : Bool). cond (not b) (Err Algorithm) (Ok c.in_ok-name.name)) (sym c.if-not-is_algorithm.ensures))
