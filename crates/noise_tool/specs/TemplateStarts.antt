-- The ends of a template's file can be made.
use Rattle.std.specs.Prelude.{◌≡◌, ℕ, List, None}
use Rattle.noise_names.specs.declared.token.Role.{Role}
use Rattle.noise_names.specs.Plan.{Plan}
use Rattle.noise_explain.specs.Template.{IsTemplateText}
use Rattle.noise_explain.specs.declared.values.Given.{Given}
use Rattle.noise_run.specs.Ends.{IsFilePattern, setup_of}

-- the file of a template is of its pattern, and nothing is wrong with either setup
pub record Starts (given : List Given) (p : Plan) (text : List ℕ) (template : IsTemplateText given p text) : Type 0
  where
    pub pattern : IsFilePattern template.file.block template.file.protocol p
    pub set_up : (role : Role) → setup_of template.file p role ≡ None

abbrev pub TemplatesStart : Type 0
TemplatesStart =
    (given : List Given) (p : Plan) (text : List ℕ) (template : IsTemplateText given p text)
    → Starts given p text template
