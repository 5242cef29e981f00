-- The two structs that hold lent bytes to write to, each as a `HolderMut`: that of a command keeps the rules, that of a response nothing.
-- Assumes nothing.
use mathlib.Core.Path.{◌≡◌, refl, subst}
use mathlib.Core.Bool.{true, false}
use Prim.Native.Nat.{ℕ}
use mathlib.Core.List.{List, [], ◌∷◌}
use seplogic.Ra.Ura.{Ura}
use base.Logic.{ent, emp, via}
use base.Fml.{ftrue}
use mir.Val.{Val}
use denote.Laws.{Is}
use types.Logic.{Logic, sem}
use contract.Lifetimes.{Lfts}
use types.Kit.{‵, given, ◌$◌, ◌∵◌, !, qed, by, move, keep, use0, use1, learn, fsplit, fjoin, updating, now as at_once, done}
use denote.Exit.{no}
use denote.Ref.{NamedLft, MutBor}
use denote.Signature.{named_lft, plain}
use denote.Steps.{nothing}
use denote.Struct.Laws as LL
use denote.Struct.Rest.{all_own, own_open, own_shut}
use denote.Triple.Walked.{Goes, stay_dropped}
use Rattle.frame.specs.declared.rules.Rules.{Rules}
use Rattle.frame.proofs.RulesByValue.{rules as by_rules}
use Rattle.frame.specs.contracts.rules.Rules as Ru
use Rattle.frame.proofs.rules.Rules.TheLaws as Ru'
use Rattle.view.specs.declared.command.TpmCommandMut.{TpmCommandMut}
use Rattle.view.specs.contracts.command.TpmCommandMut as C
use Rattle.view.proofs.command.TpmCommandMut.TheLaws as C'
use Rattle.view.specs.declared.response.TpmResponseMut.{TpmResponseMut}
use Rattle.view.specs.contracts.response.TpmResponseMut as R
use Rattle.view.proofs.response.TpmResponseMut.TheLaws as R'
use Rattle.view.proofs.HoldingMut.{HolderMut, Plain, IsPlain, Bytes, at_low, own_low, valued}

abbrev pub at : Lfts 1 → NamedLft
at κs = named_lft 1 0 tt κs

abbrev pub rules : Plain
rules = record { by = by_rules; makes = LL.makes Ru.the_type Ru'.the_plain }

-- what the rules own, at the machine value that a struct of them spells, is made anew
rules_own : {M : Type 1} {𝓤 : Ura M} (𝓛 : Logic 𝓤) (k : Rules) → IsPlain rules k → ent 𝓤 (emp 𝓤) (sem 𝓛 ((Ru.the_row).own_val k (LL.vals Ru.the_type Ru'.the_laws k)))
rules_own {𝓤 = 𝓤} 𝓛 k is = rules.makes 𝓛 k (LL.vals Ru.the_type Ru'.the_laws k) (subst (λ (vs : List Val). Is Ru.the_row k vs) (LL.tells Ru.the_type Ru'.the_laws k _ is) is)

module _ {M : Type 1} {𝓤 : Ura M} (𝓛 : Logic 𝓤) where
  pub command_spends : Goes 𝓛 1 (plain (λ κs. C.the_row (at κs))) no (stay_dropped (plain (λ κs. C.the_row (at κs))) no)
  command_spends κs d f vs ok = qed 𝓛 (‵ ftrue ∷ []) ∵ updating ! $ at_once ! $ nothing ! $ fjoin ! $ done !

  module _ (κs : Lfts 1) where
    pub command_opens : (d : TpmCommandMut) → ent 𝓤 (sem 𝓛 ((C.the_row (at κs)).own_val d (C'.lowered d ∷ []))) (sem 𝓛 ((Bytes κs).own_val d.frame (valued d.frame ∷ [])))
    command_opens d =
        qed 𝓛 (‵ ((C.the_row (at κs)).own_val d (C'.lowered d ∷ [])) ∷ []) ∵
        use1 𝓛 (given (C'.lowered d ∷ [] ≡ LL.vals (C.the_type (at κs)) (C'.the_laws (at κs)) d) (‵ (all_own (C.the_type (at κs)).parts (C'.the_laws (at κs)) (d.frame, (d.rules, tt)))))
        (own_open 𝓛 (C.the_type (at κs)) (C'.the_laws (at κs)) (d.frame, (d.rules, tt)) (C'.lowered d)) $ learn ! (λ _. fsplit ! $ keep ! (0 ∷ []) $ done !)

    pub command_shuts : (r : MutBor (List ℕ)) (k : Rules) → IsPlain rules k
        → ent 𝓤 (sem 𝓛 ((Bytes κs).own_val r (valued r ∷ []))) (sem 𝓛 ((C.the_row (at κs)).own_val (record { frame = r; rules = k }) (C'.lowered (record { frame = r; rules = k }) ∷ [])))
    command_shuts r k is =
        qed 𝓛 (‵ ((Bytes κs).own_val r (valued r ∷ [])) ∷ []) ∵ nothing ! $ use0 𝓛 (‵ ((Ru.the_row).own_val k (LL.vals Ru.the_type Ru'.the_laws k))) (rules_own 𝓛 k is) $ fjoin ! $ move ! (1 ∷ 0 ∷ []) $ fjoin ! $
        by ! (via 𝓤 (sem 𝓛 ((C.the_row (at κs)).own_val made (LL.vals (C.the_type (at κs)) (C'.the_laws (at κs)) made))) (own_shut 𝓛 (C.the_type (at κs)) (C'.the_laws (at κs)) (r, (k, tt)))
        (own_low 𝓛 (C.the_row (at κs)) (λ d. C'.lowered d ∷ []) (C'.lowers (at κs)).val_is made (LL.vals (C.the_type (at κs)) (C'.the_laws (at κs)) made)))
      where
        made : TpmCommandMut
        made = record { frame = r; rules = k }

  pub response_spends : Goes 𝓛 1 (plain (λ κs. R.the_row (at κs))) no (stay_dropped (plain (λ κs. R.the_row (at κs))) no)
  response_spends κs d f vs ok = qed 𝓛 (‵ ftrue ∷ []) ∵ updating ! $ at_once ! $ nothing ! $ fjoin ! $ done !

  module _ (κs : Lfts 1) where
    pub response_opens : (d : TpmResponseMut) → ent 𝓤 (sem 𝓛 ((R.the_row (at κs)).own_val d (R'.lowered d ∷ []))) (sem 𝓛 ((Bytes κs).own_val d.frame (valued d.frame ∷ [])))
    response_opens d =
        qed 𝓛 (‵ ((R.the_row (at κs)).own_val d (R'.lowered d ∷ [])) ∷ []) ∵
        use1 𝓛 (given (R'.lowered d ∷ [] ≡ R'.lowered d ∷ []) (‵ (all_own (R.the_type (at κs)).parts (R'.the_laws (at κs)) (d.frame, tt))))
        (own_open 𝓛 (R.the_type (at κs)) (R'.the_laws (at κs)) (d.frame, tt) (R'.lowered d)) $ learn ! (λ _. fsplit ! $ keep ! (0 ∷ []) $ done !)

    pub response_shuts : (r : MutBor (List ℕ)) → ent 𝓤 (sem 𝓛 ((Bytes κs).own_val r (valued r ∷ []))) (sem 𝓛 ((R.the_row (at κs)).own_val (record { frame = r }) (R'.lowered (record { frame = r }) ∷ [])))
    response_shuts r = qed 𝓛 (‵ ((Bytes κs).own_val r (valued r ∷ [])) ∷ []) ∵ nothing ! $ move ! (1 ∷ 0 ∷ []) $ fjoin ! $ by ! (own_shut 𝓛 (R.the_type (at κs)) (R'.the_laws (at κs)) (r, tt))

abbrev pub command : HolderMut rules true
command = record {
  row = λ κs. C.the_row (at κs);
  frame = λ κs d. d.frame;
  beside = λ κs d. d.rules;
  made = λ κs r k. record { frame = r; rules = k };
  holds = λ κs r k. refl;
  keeping = λ κs r k. refl;
  name = (C.struct (at ([], tt))).name;
  tells = λ κs. (C'.lowers (at κs)).val_is;
  typed = λ 𝓛 κs d v is. ((LL.lawful (C.the_type (at κs)) (C'.the_laws (at κs)) 𝓛).typed d _ is).0;
  room = λ κs d is. (LL.owed (C.the_type (at κs)) (C'.the_laws (at κs)) d _ is).0.0.1;
  known = λ κs d is. at_low rules.by d.rules _ (LL.owed (C.the_type (at κs)) (C'.the_laws (at κs)) d _ is).1.0;
  last = λ κs d. (tt, tt);
  spends = λ 𝓛. command_spends 𝓛;
  opens = λ 𝓛 κs d. command_opens 𝓛 κs d;
  shuts = λ 𝓛 κs r k is. command_shuts 𝓛 κs r k is;
}

abbrev pub response : HolderMut rules false
response = record {
  row = λ κs. R.the_row (at κs);
  frame = λ κs d. d.frame;
  beside = λ κs d. tt;
  made = λ κs r k. record { frame = r };
  holds = λ κs r k. refl;
  keeping = λ κs r k. refl;
  name = (R.struct (at ([], tt))).name;
  tells = λ κs. (R'.lowers (at κs)).val_is;
  typed = λ 𝓛 κs d v is. ((LL.lawful (R.the_type (at κs)) (R'.the_laws (at κs)) 𝓛).typed d _ is).0;
  room = λ κs d is. (LL.owed (R.the_type (at κs)) (R'.the_laws (at κs)) d _ is).0.0.1;
  known = λ κs d is. tt;
  last = λ κs d. (tt, tt);
  spends = λ 𝓛. response_spends 𝓛;
  opens = λ 𝓛 κs d. response_opens 𝓛 κs d;
  shuts = λ 𝓛 κs r k is. response_shuts 𝓛 κs r;
}
