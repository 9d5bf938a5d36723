-- A command with one more flag, or with one more subcommand, as clap's rules have it: for
-- `pmb_command`, `traffic_command`, `capture_command`, `recording_command`, `import_command`,
-- `facts_command` and `with_leaf`, which build the tool's command.
use Rattle.std.proofs.Common.{◌≡◌, ◌||◌, Bool, false, ap₂, ◌∙◌}
use Rattle.clap.specs.Words.{AddsArg, App, Rule, Text, app_of, new_app, rule_of, with_rule, with_subcommand}
use Rattle.clap.specs.declared.builder.arg.Arg.{Arg}
use Rattle.clap.specs.declared.builder.command.Command.{Command}
use Rattle.clap.specs.declared.builder.command.Command.TheViews.{out-Command as fields_of}

module _ (old new : Command) (a : Arg) (local : a.global ≡ false) (adds : AddsArg old a new) where
  -- it has one rule more
  pub with_flag : (app : App) (rule : Rule) → app_of old ≡ app → rule_of a ≡ rule → app_of new ≡ with_rule app rule
  with_flag app rule is of = adds.shape local ∙ ap₂ (λ (p : App) (r : Rule). with_rule p r) is of

  -- and still none that is global
  pub still_local : (fields_of old).has_globals ≡ false → (fields_of new).has_globals ≡ false
  still_local none = adds.globals ∙ ap₂ (λ (x y : Bool). x || y) none local

-- a subcommand of this name with one argument, by what is known of the command and of the argument
pub same_leaf : (name : Text) {app app_is : App} {rule rule_is : Rule} → app ≡ app_is → rule ≡ rule_is
    → with_subcommand app (with_rule (new_app name) rule).top
    ≡ with_subcommand app_is (with_rule (new_app name) rule_is).top
same_leaf name same_app same_rule = ap₂ (λ (a : App) (r : Rule). with_subcommand a (with_rule (new_app name) r).top)
    same_app same_rule

-- a subcommand, by what is known of both commands
pub same_subcommand : {app app_is leaf leaf_is : App} → app ≡ app_is → leaf ≡ leaf_is
    → with_subcommand app leaf.top ≡ with_subcommand app_is leaf_is.top
same_subcommand same_app same_sub = ap₂ (λ (a l : App). with_subcommand a l.top) same_app same_sub
